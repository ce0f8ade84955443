use Rattle.std.proofs.Common.{◌≡◌, List, length}
use Rattle.rules.specs.Bytes.{Part, parts}
use Rattle.rules.specs.Reading.{table_in}
use Rattle.rules.specs.Listing.{text_of}
use Rattle.console.specs.Page.{put_all}
use Rattle.console.specs.Shown.{shown}
use Rattle.text.proofs.Walked.{lines_from, Left}
use Rattle.text.proofs.listing.put_planned.Given as goal

-- the records that are left make the page whole
abbrev pub invariant-loop-rest : goal.invariant-loop-rest
invariant-loop-rest l = record {
  same_buffer : l.page.bytes.ghost_name ≡ l.initial.page.bytes.ghost_name;
  records : (left : List Part) × Left (table_in l.table) (put_all (text_of (lines_from (table_in l.table) (parts (table_in l.table)))) (shown l.initial.page)) left l.rest (shown l.page) l.sum;
}

abbrev pub decreases-loop-rest : goal.decreases-loop-rest
decreases-loop-rest l = length l.rest
