-- The questions of a described packet, case by case of what was found. Assumes nothing.
use Rattle.std.specs.Prelude.{◌%◌, Err, None, Ok, Option, Result, Some}
use Rattle.std.specs.Option.{ok_or}
use Rattle.refusal.specs.declared.Refusal.{Refusal}
use Rattle.refusal.specs.declared.Refusal.TheVariants as R
use Prim.Native.Nat.{ℕ, zero, suc, ◌+◌, ◌*◌, ◌^◌, ◌≤◌, ◌<◌}
use mathlib.Core.Path.{◌≡◌, refl, sym, ap, ap₂, ◌∙◌}
use Rattle.refusal.specs.Told.{told_maybe}
use mathlib.Core.Bool.{not, true, false, false≢true}
use lib.Dec.{eqb}
use Rattle.packet.proofs.Gathering.{first_is}
use mathlib.Core.List.{List, [], ◌∷◌}
use native.Mathlib.Omega.{arith}
use lib.ListN.{length, get_or}
use Rattle.text.specs.Quote.{bytes}
use Rattle.packet.specs.declared.field.Ask.{Ask}
use Rattle.packet.specs.declared.field.Ask.TheVariants.{Holds}
use Rattle.packet.specs.Field.{range_in, value_in, asks}
use Rattle.packet.specs.Packet.{first_from}
use Rattle.field.specs.declared.Field.{Field}
use Rattle.questions.specs.declared.PacketType.{PacketType}
use Rattle.text.specs.Told.{Told, is, absent, refused, maybe}
use Rattle.questions.specs.Described.{route_in, cut, asked, named, type_by, type_in, field_in, field_with}

-- ---- the route

pub route_short : (ds : List ℕ) → length ds < 2 → refused 27 ≡ route_in ds
route_short [] lt = refl
route_short (a ∷ []) lt = refl
route_short (a ∷ b ∷ ds) lt = absurd (omega arith)

pub route_joined : (ds : List ℕ) → 2 ≤ length ds → {r : ℕ} → r ≡ get_or ds 0 0 * 2 ^ 32 + get_or ds 1 0 → is r ≡ route_in ds
route_joined [] le e = absurd (omega arith)
route_joined (a ∷ []) le e = absurd (omega arith)
route_joined (a ∷ b ∷ ds) le e = ap is e

-- ---- by what was found

module _ (s ds ps : List ℕ) where
  module _ (name : List ℕ) where
    pub asked_none : first_from (asks Holds s name) 0 ps ≡ None → absent ≡ asked s ds ps name
    unfolding asked
    asked_none e = rw e

    pub asked_at : {i : ℕ} → first_from (asks Holds s name) 0 ps ≡ Some i → {range dword v : ℕ} → range ≡ range_in s name (get_or ps i 0)
        → dword ≡ get_or ds i 0 → v ≡ value_in s range dword → is v ≡ asked s ds ps name
    unfolding asked
    asked_at e r d v = rw e (ap is (v ∙ ap₂ (value_in s) r d))

  pub type_none : first_from (asks Holds s (bytes "Packet Type")) 0 ps ≡ None → absent ≡ type_in s ds ps
  unfolding type_in
  type_none e = rw e

  pub type_at_lem : {i : ℕ} → first_from (asks Holds s (bytes "Packet Type")) 0 ps ≡ Some i → {range dword : ℕ}
      → range ≡ range_in s (bytes "Packet Type") (get_or ps i 0) → dword ≡ get_or ds i 0 → {told : Told PacketType} → told ≡ type_by s range dword
      → told ≡ type_in s ds ps
  unfolding type_in
  type_at_lem e r d t = rw e (t ∙ ap₂ (type_by s) r d)

  module _ (ask : Ask) (kind : ℕ) (name : List ℕ) where
    pub field_none : first_from (asks ask s name) 0 ps ≡ None → absent ≡ field_with s ds ps ask kind name
    unfolding field_with
    field_none e = rw e

    pub field_found : {i : ℕ} → first_from (asks ask s name) 0 ps ≡ Some i → {f : Field} → f ≡ field_in s ds ps kind i
        → is f ≡ field_with s ds ps ask kind name
    unfolding field_with
    field_found e f = rw e (ap is f)

-- the dword that is found has a range of the name
pub range_there : (s ps name : List ℕ) {i : ℕ} → first_from (asks Holds s name) 0 ps ≡ Some i → range_in s name (get_or ps i 0) ≡ 0 → ⊥
unfolding asks
range_there s ps name {i} e none =
    let w = first_is (asks Holds s name) 0 i ps e in
    let at : w.0 ≡ i = omega (arith, w.1) in
    let holds : not (eqb (range_in s name (get_or ps w.0 0)) 0) ≡ true = w.2 in
    let gone : not (eqb (range_in s name (get_or ps w.0 0)) 0) ≡ false =
    ap (λ (k : ℕ). not (eqb (range_in s name (get_or ps k 0)) 0)) at ∙ ap (λ (k : ℕ). not (eqb k 0)) none
    in
    false≢true (sym gone ∙ holds)

-- ---- a packet type with a name or without

pub type_unnamed : (v : ℕ) (p : ℕ) → p ≡ 0 → refused 28 ≡ named v p
type_unnamed v zero e = refl
type_unnamed v (suc p) e = absurd (omega arith)

pub type_named : {w v : ℕ} (p : ℕ) → (p ≡ 0 → ⊥) → w ≡ v → is (record { value = w; name = record { at = p } }) ≡ named v p
type_named zero n e = absurd (n refl)
type_named (suc p) n e = λ i. is (record { value = e i; name = record { at = suc p } })

-- what `ok_or` gave up on
pub was_unnamed : (o : Option ℕ) {r : Result ℕ Refusal} {e : Refusal} → r ≡ ok_or o R.UnnamedType → r ≡ Err e → (o ≡ None) × (e ≡ R.UnnamedType)
was_unnamed (Some p) h k = absurd (let z : ◌≡◌ {A = ℕ} 0 1 = cc in omega arith)
was_unnamed None h k = (refl, cc)

-- ---- what was found, and what a closure made of it

-- a value that was asked, cut
pub cut_is : (bits : ℕ) (o : Option ℕ) {r : Option ℕ} → ((v : ℕ) → o ≡ Some v → r ≡ Some (v % 2 ^ bits)) → (o ≡ None → r ≡ None)
    → {told : Told ℕ} → maybe o ≡ told → told_maybe (Ok r) ≡ cut bits told
cut_is bits (Some v) some none h = rw (some v refl) (ap (cut bits) h)
cut_is bits None some none h = rw (none refl) (ap (cut bits) h)

-- the field that was found
pub found_is : (s ds ps : List ℕ) (ask : Ask) (kind : ℕ) (name : List ℕ) (o : Option ℕ) {r : Option Field}
    → ((i : ℕ) → o ≡ Some i → r ≡ Some (field_in s ds ps kind i)) → (o ≡ None → r ≡ None) → o ≡ first_from (asks ask s name) 0 ps
    → told_maybe (Ok r) ≡ field_with s ds ps ask kind name
found_is s ds ps ask kind name (Some i) some none h = rw (some i refl) (field_found s ds ps ask kind name (sym h) refl)
found_is s ds ps ask kind name None some none h = rw (none refl) (field_none s ds ps ask kind name (sym h))
