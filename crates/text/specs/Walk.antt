-- The walk along a planned schedule: what is listed of the record in front. Assumes nothing.
use Rattle.std.specs.Prelude.{ℕ, ◌+◌, ◌*◌, ◌≤◌, ◌≡◌, List, [], ◌∷◌}
use Rattle.rules.specs.Words.{when}
use Rattle.rules.specs.Table.{words}
use Rattle.rules.specs.Schedule.{base}
use Rattle.rules.specs.Plan.{plan}
use Rattle.rules.specs.Numbers.{all_done}
use Rattle.rules.specs.Fields.{BF, WI, byte_at, mark_at}
use Rattle.rules.specs.Bytes.{bytes_of}
use Rattle.rules.specs.Reading.{table_in, read_says}
use Rattle.rules.specs.Listing.{ascii, signal_line, use_line, text_of}
use Rattle.form.specs.Records.{bf_bytes, use_bytes}
use Rattle.console.specs.Shown.{Puts}
use Rattle.console.specs.declared.page.Page.{Page}
use Rattle.text.specs.declared.walk.Listed.{Listed}

-- these bytes are the schedule of a table that was planned
pub record Planned (table schedule : List ℕ) : Type 0 where
  pub accepted : (read_says table).number ≡ all_done
  pub few : base (plan (table_in table)) (table_in table).signals ≤ words
  pub bytes : schedule ≡ bytes_of (table_in table) (plan (table_in table))

-- a record's line, its bytes, and its count if it is a signal's
pub record Found : Type 0 where
  pub line : List ℕ
  pub size : ℕ
  pub count : ℕ

abbrev pub signal_in : List ℕ → Found
signal_in bytes = record { line = signal_line (byte_at bytes 2) (byte_at bytes 3); size = bf_bytes; count = byte_at bytes 3 }

-- high byte first
abbrev pub instance_in : List ℕ → ℕ
instance_in bytes = byte_at bytes 4 * 256 + byte_at bytes 5

abbrev pub use_in : (name bytes : List ℕ) → Found
use_in name bytes = record { line = use_line name (byte_at bytes 3) (instance_in bytes) (byte_at bytes 6); size = use_bytes; count = 0 }

-- the record in front: before EN there are no others
unfoldable pub record_in : List ℕ → Found
record_in bytes =
    when (mark_at bytes 0 BF) (signal_in bytes)
    (when (mark_at bytes 0 WI) (use_in (ascii "write ") bytes)
    (use_in (ascii "read ") bytes))

-- r is what listing it on a page gives, and `after` the page then
abbrev pub Lists : Found → (before : Page) → Listed → (after : Page) → Type 0
Lists f before r after = (r.size ≡ f.size) × (r.count ≡ f.count) × Puts (text_of (f.line ∷ [])) before after
