-- When a verdict on rows that were read is right. Assumes nothing: this is a definition.
use Rattle.std.specs.Prelude.{◌≡◌, vec_items}
use Rattle.frame.specs.Cells.{framed, SignedBy, DecidedBy}
use Rattle.text.specs.declared.read.Rows.{Rows}
use Rattle.text.specs.declared.verdict.Verdict.{Verdict}

-- the rows are a proper frame, with that sign, and moves bring it in order just if the verdict says so
abbrev pub Judged : Rows → Verdict → Type 0
Judged r v =
    (v.sides ≡ r.sides) × SignedBy (framed r.sides (vec_items r.cells)) v.sign × DecidedBy (framed r.sides (vec_items r.cells)) v.can
