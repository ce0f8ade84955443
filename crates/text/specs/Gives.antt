-- The contract of `put_listing`. Assumes nothing.
use Rattle.std.specs.Prelude.{ℕ, ◌+◌, ◌*◌, ◌≡◌, List, length}
use Rattle.rules.specs.Table.{most_signals, most_uses}
use Rattle.rules.specs.Listing.{listing}
use Rattle.console.specs.Page.{page, put_all}
use Rattle.plan.specs.Planning.{plan_out}

-- For these table bytes, this lent schedule and this page, of which `at` bytes are in use: r is how many are in use then, `planned` and `after` what is left
-- in the schedule and on the page. The listing stands after what was there; a page that is full takes no more of it.
abbrev pub ListingGives : (table schedule out : List ℕ) (at r : ℕ) (planned after : List ℕ) → Type 0
ListingGives table schedule out at r planned after = (page after r ≡ put_all (listing table (length schedule)) (page out at)) × (planned ≡ plan_out table schedule)

-- no listing has more characters: a line for each use and each signal, and two more; none is longer than `write 15 511 element 31`
abbrev pub longest_listing : ℕ
longest_listing = (most_uses + most_signals + 2) * 24
