use Rattle.std.proofs.Common.{◌≡◌, take}
use Rattle.console.specs.Page.{page, put_all}
use Rattle.console.specs.Shown.{shown}
use Rattle.console.proofs.page.Page.put_all.Given as goal

-- as much as was taken stands on the page
abbrev pub invariant-loop-b : goal.invariant-loop-b
invariant-loop-b l = (l.self.bytes.ghost_name ≡ l.initial.self.bytes.ghost_name) × (page l.self.bytes.now l.used ≡ put_all (take l.b-index l.bytes) (shown l.initial.self))
