-- A text with room behind it.
use Rattle.std.specs.Prelude.{ℕ, List, take}
use Rattle.lq_wire.specs.declared.page.Page.{Page}

-- the text
abbrev pub page_text : Page → List ℕ
page_text page = take page.used page.bytes.items
