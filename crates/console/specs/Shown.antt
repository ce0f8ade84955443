-- What a page shows: its buffer, and how many of its bytes are in use. Assumes nothing.
use Rattle.std.specs.Prelude.{◌≡◌, ℕ, List}
use Rattle.console.specs.declared.page.Page.{Page}
use Rattle.console.specs.Page.{page, put_all}
use Rattle.console.specs.Page as sheet

abbrev pub shown : Page → sheet.Page
shown p = page p.bytes.now p.used

-- this text is put on the page, which stays on its buffer
abbrev pub Puts : List ℕ → (before after : Page) → Type 0
Puts text before after = (after.bytes.ghost_name ≡ before.bytes.ghost_name) × (shown after ≡ put_all text (shown before))
