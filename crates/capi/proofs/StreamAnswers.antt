-- There is one answer of a stream as a plain struct. Assumes nothing.
use Prim.Native.Nat.{ℕ}
use mathlib.Core.Path.{◌≡◌, sym, ap, ◌∙◌}
use mathlib.Core.List.{List}
use Rattle.scan.specs.declared.Pieces.{Pieces}
use Rattle.units.specs.declared.State.{State}
use Rattle.stream.specs.declared.Fed.{Fed}
use Rattle.stream.specs.declared.Finished.{Finished}
use Rattle.stream.proofs.States.{states_left}
use Rattle.refusal.specs.Told.{told_maybe}
use Rattle.capi.specs.declared.streams.StreamAnswer.{StreamAnswer}
use Rattle.capi.specs.Streams.{stream_by, StreamFed, StreamEnded}

-- no second answer keeps the contract of a call that feeds
pub no_second_fed : (pieces : Pieces) (s rest slots : List ℕ) (st : State) (rest' slots' rest'' slots'' : List ℕ) (r q : StreamAnswer) → StreamFed pieces s rest slots st rest' slots' r → StreamFed pieces s rest slots st rest'' slots'' q → (r ≡ q) × (rest' ≡ rest'') × (slots' ≡ slots'')
no_second_fed pieces s rest slots st rest' slots' rest'' slots'' r q x y =
    let one = (states_left pieces).one_feed s rest slots st rest' slots' rest'' slots'' x.fed y.fed x.done y.done in
    (x.is ∙ ap (λ (f : Fed). stream_by f.at f.state (told_maybe f.answer)) one.0 ∙ sym y.is, one.1, one.2)

-- nor that of one that finishes
pub no_second_ended : (pieces : Pieces) (rest slots : List ℕ) (st : State) (slots' slots'' : List ℕ) (r q : StreamAnswer) → StreamEnded pieces rest slots st slots' r → StreamEnded pieces rest slots st slots'' q → (r ≡ q) × (slots' ≡ slots'')
no_second_ended pieces rest slots st slots' slots'' r q x y =
    let one = (states_left pieces).one_finish rest slots st slots' slots'' x.finished y.finished x.done y.done in
    (x.is ∙ ap (λ (f : Finished). stream_by 0 f.state (told_maybe f.answer)) one.0 ∙ sym y.is, one.1)
