-- A text put in front of others that are put: one law for every part of a sentence. Assumes nothing.
use Prim.Native.Nat.{ℕ}
use mathlib.Core.Path.{◌∙◌}
use mathlib.Core.List.{List, [], ◌∷◌}
use Rattle.print.specs.Put.{Placed}
use Rattle.channel.specs.Sentence.{buffer_by, place_by, Laid}

pub laid_next : {out mid exit s : List ℕ} {at p r : ℕ} {ss : List (List ℕ)} → Placed out at s mid p → Laid mid p ss exit r → Laid out at (s ∷ ss) exit r
unfolding buffer_by place_by
laid_next {ss = ss} x y = record { buffer = y.buffer ∙ rw (x.buffer, x.place); place = y.place ∙ rw (x.buffer, x.place) }

pub laid_last : {out exit s : List ℕ} {at r : ℕ} → Placed out at s exit r → Laid out at (s ∷ []) exit r
unfolding buffer_by place_by
laid_last x = record { buffer = x.buffer; place = x.place }
