-- The listing stands whole: specs/Listings.antt, proved.
use Prim.Native.Nat.{ℕ}
use mathlib.Core.Path.{sym, ap, ◌∙◌}
use mathlib.Core.List.{◌++◌}
use native.Mathlib.Omega.{arith}
use lib.ListN.{length, take, drop}
use Rattle.rules.specs.Listing.{listing}
use Rattle.console.specs.Page.{Page}
use Rattle.text.proofs.Whole.{listing_length, put_whole}
use Rattle.promises.specs.Listings.{AllListedWhole}

pub all_listed_whole : AllListedWhole
all_listed_whole table schedule out at r planned after g h =
    let text = listing table (length schedule) in
    let e = g.0 ∙ put_whole text out at (omega (arith, listing_length table (length schedule))) in
    let end = ap (λ (p : Page). p.used) e in
    record { whole = ap (λ (p : Page). p.bytes) e ∙ ap (λ (n : ℕ). take at out ++ text ++ drop n out) (sym end); end = end }
