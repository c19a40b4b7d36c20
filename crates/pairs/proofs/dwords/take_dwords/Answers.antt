-- `dwords::take_dwords` meets its contract: what was met so far and what the rest adds make up the whole, and what was met stands in its places. Assumes
-- nothing.
use Prim.Native.Nat.{◌<◌}
use Rattle.pairs.proofs.BadPieces.{BadUpTo, bad_starts, bad_goes_on, bad_past_dword, bad_met}
use Rattle.pairs.proofs.Slots.{UpTo, before_starts, before_next, up_to_bad, up-to-dword, dword-slot, dword-value, Kept, kept_starts, kept_stored, kept_passed, kept_all}
use Rattle.pairs.specs.Data.{dwords_of}
use lib.ListN.{length}
use mathlib.Core.Path.{sym, ◌∙◌}
use native.Mathlib.Omega.{arith}
use Rattle.pairs.proofs.dwords.take_dwords.Goals as goal
use Rattle.pairs.proofs.dwords.take_dwords.Goals.{in-Some, then-n-lt256, else-n-lt256, in_default}

pub loop-dword-init : goal.loop-dword-init
loop-dword-init c = (before_starts _, bad_starts _, kept_starts _ _)

pub piece_at-piece-requires : goal.piece_at-piece-requires
piece_at-piece-requires c = (c.requires.0, c.loop-dword.invariant.0.within)

pub overflow_add-n : goal.overflow_add-n
overflow_add-n c = omega (arith, c.loop-dword.invariant.0.few, c.loop-dword.invariant.0.within)

pub returns-then-piece-inner : goal.returns-then-piece-inner
returns-then-piece-inner c =
    let m : UpTo c.args.inner.now c.match-piece.n c.piece_at-piece.result.end × BadUpTo c.args.inner.now c.match-piece.bad c.piece_at-piece.result.end × Kept (dwords_of c.args.inner.now) c.args.own.now c.match-piece.n c.match-piece.own = elim c.match-piece.branch [
      | in-Some w ↦
          let q = sym w.in-Some.is ∙ sym c.piece_at-piece.ensures.is in (
            rw w.n-is (up-to-dword _ c.loop-dword.invariant.0 c.piece_at-piece.ensures.ends.is c.piece_at-piece.ensures.ends.up c.piece_at-piece.ensures.ends.within q),
            rw w.bad-is (bad_past_dword _ c.loop-dword.invariant.1 c.loop-dword.invariant.0.within c.piece_at-piece.ensures.ends.is q),
            rw (w.own-is, w.n-is) (elim w.if-n-lt256.branch [
              | then-n-lt256 x ↦ rw x.own-is (kept_stored _ _ c.loop-dword.invariant.2 x.if-n-lt256.true c.requires.1
                  (dword-slot _ c.loop-dword.invariant.0 c.piece_at-piece.ensures.ends.is c.piece_at-piece.ensures.ends.up c.piece_at-piece.ensures.ends.within q)
                  (dword-value _ c.loop-dword.invariant.0 c.piece_at-piece.ensures.ends.is c.piece_at-piece.ensures.ends.up c.piece_at-piece.ensures.ends.within q))
              | else-n-lt256 x ↦ rw x.own-is (kept_passed _ _ c.loop-dword.invariant.2 x.if-n-lt256.false)
            ]),
          )
      | in_default w ↦
          let q = sym w.in_default.is ∙ sym c.piece_at-piece.ensures.is in (
            rw w.n-is (up_to_bad _ c.loop-dword.invariant.0 c.piece_at-piece.ensures.ends.is c.piece_at-piece.ensures.ends.up c.piece_at-piece.ensures.ends.within q),
            rw w.bad-is (bad_met _ c.loop-dword.invariant.1 c.loop-dword.invariant.0.within c.piece_at-piece.ensures.ends.is q),
            rw (w.own-is, w.n-is) c.loop-dword.invariant.2,
          )
    ] in
    record {
      tally = record { dwords_are = m.0.over c.if-piece-inner.true; bad_is = sym (m.1.over c.if-piece-inner.true) };
      kept = kept_all _ _ m.2 (m.0.over c.if-piece-inner.true);
    }

pub overflow_add-at : goal.overflow_add-at
overflow_add-at c = omega (arith, c.piece_at-piece.ensures.ends.within)

pub loop-dword-smaller : goal.loop-dword-smaller
loop-dword-smaller c =
    omega (
      arith,
      c.piece_at-piece.ensures.ends.up,
      c.piece_at-piece.ensures.ends.more (omega (arith, c.if-piece-inner.false, c.piece_at-piece.ensures.ends.within)),
    )

pub loop-dword-preserved : goal.loop-dword-preserved
loop-dword-preserved c =
    let m : UpTo c.args.inner.now c.match-piece.n c.piece_at-piece.result.end × BadUpTo c.args.inner.now c.match-piece.bad c.piece_at-piece.result.end × Kept (dwords_of c.args.inner.now) c.args.own.now c.match-piece.n c.match-piece.own = elim c.match-piece.branch [
      | in-Some w ↦
          let q = sym w.in-Some.is ∙ sym c.piece_at-piece.ensures.is in (
            rw w.n-is (up-to-dword _ c.loop-dword.invariant.0 c.piece_at-piece.ensures.ends.is c.piece_at-piece.ensures.ends.up c.piece_at-piece.ensures.ends.within q),
            rw w.bad-is (bad_past_dword _ c.loop-dword.invariant.1 c.loop-dword.invariant.0.within c.piece_at-piece.ensures.ends.is q),
            rw (w.own-is, w.n-is) (elim w.if-n-lt256.branch [
              | then-n-lt256 x ↦ rw x.own-is (kept_stored _ _ c.loop-dword.invariant.2 x.if-n-lt256.true c.requires.1
                  (dword-slot _ c.loop-dword.invariant.0 c.piece_at-piece.ensures.ends.is c.piece_at-piece.ensures.ends.up c.piece_at-piece.ensures.ends.within q)
                  (dword-value _ c.loop-dword.invariant.0 c.piece_at-piece.ensures.ends.is c.piece_at-piece.ensures.ends.up c.piece_at-piece.ensures.ends.within q))
              | else-n-lt256 x ↦ rw x.own-is (kept_passed _ _ c.loop-dword.invariant.2 x.if-n-lt256.false)
            ]),
          )
      | in_default w ↦
          let q = sym w.in_default.is ∙ sym c.piece_at-piece.ensures.is in (
            rw w.n-is (up_to_bad _ c.loop-dword.invariant.0 c.piece_at-piece.ensures.ends.is c.piece_at-piece.ensures.ends.up c.piece_at-piece.ensures.ends.within q),
            rw w.bad-is (bad_met _ c.loop-dword.invariant.1 c.loop-dword.invariant.0.within c.piece_at-piece.ensures.ends.is q),
            rw (w.own-is, w.n-is) c.loop-dword.invariant.2,
          )
    ] in
    let short : c.piece_at-piece.result.end < length c.args.inner.now = omega (arith, c.if-piece-inner.false, c.piece_at-piece.ensures.ends.within) in
    (before_next _ m.0 short (c.piece_at-piece.ensures.ends.more short), bad_goes_on _ m.1 short, m.2)
