-- The demands are met: specs/Demands.antt, proved.
use Rattle.theory.proofs.Proved.{hyper_least, live_when_needed, latest_value, any_round, refused_write_changes_nothing, in_plan_order, plan_takes_lowest, at_most_two_each, no_longer_schedule}
use Rattle.simulation.proofs.Fit.{fit_exactly, leads_inside}
use Rattle.promises.specs.Demands.{Demands}
use Rattle.promises.proofs.Tables.{tables_exactly, tables_first}
use Rattle.promises.proofs.Plans.{all_plans_rightly}
use Rattle.promises.proofs.Lists.{all_lists_rightly}
use Rattle.promises.proofs.Schedules.{schedules_exactly, plans_pass}
use Rattle.promises.proofs.Runs.{any_calls, loads_exactly, runs_as_promised}
use Rattle.promises.proofs.FromC.{same_from_C}
use Rattle.promises.proofs.Listings.{all_listed_whole}

pub demands_met : Demands
demands_met = record {
  first = record {
    tables = tables_first;
    plan = λ table out r after g. (all_plans_rightly table out r after g).unchanged;
    list = λ table signal list r after g. (all_lists_rightly table signal list r after g).unchanged;
    load = λ m table schedule r g. (loads_exactly m table schedule r g).refused;
    calls = any_calls;
    fitness = fit_exactly;
    leads_inside = leads_inside;
    from_C = same_from_C;
  };
  second = record {
    tables = tables_exactly;
    schedules = schedules_exactly;
    plans = all_plans_rightly;
    plans_pass = plans_pass;
    lists = all_lists_rightly;
  };
  third = record { loads = loads_exactly; runs = runs_as_promised };
  ground = record {
    least = hyper_least;
    needed = live_when_needed;
    latest = latest_value;
    any_round = any_round;
    refused_nothing = refused_write_changes_nothing;
    order = in_plan_order;
    lowest = plan_takes_lowest;
    two_each = at_most_two_each;
    longest = no_longer_schedule;
    listings = all_listed_whole;
  };
}
