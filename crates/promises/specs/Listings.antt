-- The listing on a lent page: `text::put_listing`. proofs/Listings.antt proves it. Assumes nothing.
use Rattle.std.specs.Prelude.{ℕ, ◌+◌, ◌≤◌, ◌≡◌, List, ◌++◌, length, take, drop}
use Rattle.rules.specs.Listing.{listing}
use Rattle.text.specs.Gives.{ListingGives, longest_listing}

-- On a page with room for the longest listing the listing of any bytes stands whole after what was there, and what follows it stays.
pub record ListedWhole (table schedule out : List ℕ) (at r : ℕ) (after : List ℕ) : Type 0 where
  pub whole : after ≡ take at out ++ listing table (length schedule) ++ drop r out
  pub end : r ≡ at + length (listing table (length schedule))

abbrev pub AllListedWhole : Type 0
AllListedWhole = (table schedule out : List ℕ) (at r : ℕ) (planned after : List ℕ) → ListingGives table schedule out at r planned after → at + longest_listing ≤ length out → ListedWhole table schedule out at r after
