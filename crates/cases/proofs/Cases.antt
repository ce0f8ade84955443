-- Cases A to J about the public functions: specs/Cases.antt, proved by computing both sides.
use mathlib.Core.Path.{refl}
use Rattle.rules.specs.Words.{total, every, highest, gather, when, lowest}
use Rattle.rules.specs.Euclid.{gcd_in, gcd_of, lcm_of}
use Rattle.rules.specs.Windows.{lcm_all, hyper, is_open}
use Rattle.rules.specs.Values.{same, publisher, opens_at, latest, bound, next, last_of, last_reader, until}
use Rattle.rules.specs.Table.{accesses_of, uses, every_writer, windowed, single}
use Rattle.rules.specs.Schedule.{base, clash}
use Rattle.rules.specs.Plan.{busy, lowest_free, plan_after, count_of, element_in, writers_of, live_list, plan}
use Rattle.rules.specs.Bytes.{writers_below, readers_below, parts_of, parts, size_of, start_of, schedule_length, records_of, bytes_of, schedule_in}
use Rattle.rules.specs.Answers.{stands_at, table_says, plan_says, live_says, records_say, end_says, first_says, whole_says, check_says}
use Rattle.rules.specs.Fields.{holds_at, mark_at}
use Rattle.rules.specs.Encode.{encode}
use Rattle.rules.specs.Records.{task_in, task_at, signal_at, right_at, access_in, access_at, end_at}
use Rattle.rules.specs.Reading.{section, tasks_in, signals_in, accesses_in, joined_of, grid_from, writes_in, reads_in, grid_in, table_in, ended, verdict, read_says}
use Rattle.rules.specs.Loading.{load_says}
use Rattle.plan.specs.Planning.{plan_told, planned_into, plan_out}
use Rattle.lives.specs.Lives.{live_values, live_told, live_front}
use Rattle.cases.specs.Cases.{AsDocument01Says}

pub as_document_01_says : AsDocument01Says
unfolding total every highest gather when lowest gcd_in gcd_of lcm_of lcm_all hyper is_open same publisher latest bound next last_of last_reader until accesses_of uses every_writer windowed single base clash busy lowest_free plan_after count_of element_in opens_at writers_of live_list plan writers_below readers_below parts_of parts size_of start_of schedule_length records_of bytes_of schedule_in stands_at table_says plan_says live_says records_say end_says first_says whole_says check_says holds_at mark_at encode task_in task_at signal_at right_at access_in access_at end_at section tasks_in signals_in accesses_in joined_of grid_from writes_in reads_in grid_in table_in ended verdict read_says load_says plan_told planned_into plan_out live_values live_told live_front
as_document_01_says = refl
