-- A part's units one after the other: what a call puts out is what its turns put out, and a turn is one step of the stream with the text of the unit
-- that it ends. Assumes nothing.
use Prim.Native.Nat.{ℕ, ◌+◌, ◌≤◌, ◌<◌}
use mathlib.Core.Path.{◌≡◌, refl, sym, ap, subst, ◌∙◌}
use mathlib.Core.Bool.{true}
use mathlib.Core.List.{List, [], ◌∷◌, ◌++◌, append_assoc, append-nil}
use native.Mathlib.Omega.{arith}
use lib.ListN.{length, take}
use Rattle.text.proofs.Places.{by_order}
use Rattle.text.specs.Told as T
use Rattle.tlv.specs.Number.{Bytes}
use Rattle.entry.specs.declared.Entry.{Entry}
use Rattle.listing_rows.specs.Rows.{Put}
use Rattle.listing_rows.proofs.Putting.{put_then, put_size}
use Rattle.units.specs.declared.State.{State}
use Rattle.units.specs.declared.Unit.{Unit}
use Rattle.units.specs.declared.Unit.TheVariants as U
use Rattle.units.specs.declared.Fed as FedModule
use Rattle.units.specs.Units.{Whole, Rest, Sofar, closing}
use Rattle.units.specs.Kept.{kept_text, Keeps, is_kept}
use Rattle.units.specs.Feeding.{between, unit_of, text_length, end_of, FedFor, FinishDone}
use Rattle.units.proofs.Streams.{rest_left, sofar_then}
use Rattle.units.proofs.WhatIsKept.{between_none, between_then, stood_front, whole_fits, rest_fits}
use Rattle.units.proofs.States.{kept_some, kept_length}
use Rattle.units.proofs.Existence.{takes_a_byte}
use Rattle.units.proofs.Calls.{Next, call_after}
use Rattle.units.proofs.Counting.{none_ended}
use Rattle.filters.specs.declared.Filter.{Filter}
use Rattle.filters.specs.declared.Counts.{Counts}
use Rattle.filters.specs.declared.Run.{Run}
use Rattle.filters.specs.Bounds.{Within, Goes, Stops}
use Rattle.filters.specs.Texts.{framing_of, answer_by, seen_by, cut_told}
use Rattle.filters.specs.Filter.{out_by, tell_by, out_text, told_text, counted, next_counts, after, texts}
use Rattle.filters.specs.Calls.{CutPut, LastPut, WentOn, Took, EndPut}
use Rattle.filters.proofs.Parts.{put_none, texts_append, after_append}
use Rattle.filters.proofs.Cuts.{cut_told_lem, cut_out, open_told, open_out, open_tells, text_kept, still_kept, keeps_front}

module _ (f : Filter) where
  -- ---- what one unit puts out

  record UnitPut (u out told : List ℕ) (run : Run) (out' told' : List ℕ) (r : Run) : Type 0 where
    counts_is : r.counts ≡ next_counts f run.counts u
    put : Put out run.at (out_text f run.counts u) out' r.at
    tells : Put told run.told (told_text f run.counts u) told' r.told

  record NonePut (out told : List ℕ) (run : Run) (out' told' : List ℕ) (r : Run) : Type 0 where
    counts_is : r.counts ≡ run.counts
    put : Put out run.at [] out' r.at
    tells : Put told run.told [] told' r.told

  module _ {cut : Unit} {unit out told out' told' : List ℕ} {run r : Run} (p : CutPut f cut unit out told run out' told' r) where
    unit_put : (w : List ℕ) → cut ≡ unit_of (framing_of f) w → take (length (kept_text (framing_of f) w)) unit ≡ kept_text (framing_of f) w → UnitPut w out told run out' told' r
    unfolding next_counts told_text
    unit_put w q front =
        let told_is : cut_told f cut unit ≡ answer_by f w = ap (λ (x : Unit). cut_told f x unit) q ∙ cut_told_lem f w unit front in
        let out_is : out_by f run.counts (take (text_length cut) unit) (cut_told f cut unit) ≡ out_text f run.counts w =
        ap (out_by f run.counts (take (text_length cut) unit)) told_is ∙ ap (λ (x : Unit). out_by f run.counts (take (text_length x) unit) (answer_by f w)) q ∙ cut_out f run.counts w unit front in
        record {
          counts_is = p.counts_is ∙ ap (λ (t : T.Told Entry). counted run.counts (seen_by t)) told_is;
          put = subst (λ (t : List ℕ). Put out run.at t out' r.at) out_is p.put;
          tells = subst (λ (t : List ℕ). Put told run.told t told' r.told) (ap (tell_by f run.counts) told_is) p.tells;
        }

    none_put : cut ≡ U.Open → NonePut out told run out' told' r
    unfolding counted seen_by
    none_put q =
        let told_is : cut_told f cut unit ≡ T.absent = ap (λ (x : Unit). cut_told f x unit) q ∙ open_told f unit in
        record {
          counts_is = p.counts_is ∙ ap (λ (t : T.Told Entry). counted run.counts (seen_by t)) told_is;
          put = subst (λ (t : List ℕ). Put out run.at t out' r.at) (ap (out_by f run.counts (take (text_length cut) unit)) told_is ∙ open_out f run.counts (take (text_length cut) unit)) p.put;
          tells = subst (λ (t : List ℕ). Put told run.told t told' r.told) (ap (tell_by f run.counts) told_is ∙ open_tells f run.counts) p.tells;
        }

  -- ---- calls one after the other

  pub took_none : (s unit out told : List ℕ) (run : Run) → run.from ≤ length s → is_kept (framing_of f) unit run.state.held run.state.passed ≡ true → run.at ≤ length out → run.told ≤ length told → Took f s unit out told run unit out told run
  unfolding texts after
  took_none s unit out told run a b d e =
      record {
        up = omega arith;
        within = a;
        kept = b;
        went = λ u o k.
            record {
              units = [];
              since = u;
              so_far = subst (λ (l : List ℕ). Sofar (framing_of f) l [] u) (sym (ap (λ (l : List ℕ). u ++ l) (between_none s run.from) ∙ append-nil u)) (Sofar.begun u o);
              keeps = k;
              counts_is = refl;
              put = put_none out run.at d;
              tells = put_none told run.told e;
            };
      }

  module _ {s unit out told unit₁ out₁ told₁ : List ℕ} {run r : Run} (kept : is_kept (framing_of f) unit run.state.held run.state.passed ≡ true) (x : Took f s unit out told run unit₁ out₁ told₁ r) where
    some_u : (u : List ℕ) × (Rest (framing_of f) u × WentOn f u s out told run unit₁ out₁ told₁ r)
    some_u =
        let u = kept_some (framing_of f) unit run.state.held run.state.passed kept in
        (u.0, (u.1.0, x.went u.0 u.1.0 u.1.1))

    -- the places where the outputs go on lie in them
    pub took_room : (r.at ≤ length out₁) × (length out₁ ≡ length out) × (r.told ≤ length told₁) × (length told₁ ≡ length told)
    took_room =
        let w = some_u.1.1 in
        (omega (arith, w.put.place, w.put.fits, put_size w.put), put_size w.put, omega (arith, w.tells.place, w.tells.fits, put_size w.tells), put_size w.tells)

    pub took_size : length unit₁ ≡ length unit
    took_size = kept_length (framing_of f) unit₁ r.state.held r.state.passed x.kept ∙ sym (kept_length (framing_of f) unit run.state.held run.state.passed kept)

    pub took_within : Within (length s) (length out) (length told) run r
    took_within =
        let h = took_room in
        record { up = x.up; from_within = x.within; at_within = omega (arith, h.0, h.1); told_within = omega (arith, h.2, h.3) }

    pub took_goes : Stops (length s) (length out) (length told) r → Goes (length s) (length out) (length told) run r
    unfolding texts
    took_goes stop some room told-room =
        by_order run.from r.from (λ h. h) (λ e. absurd (stuck e)) (λ h. absurd (omega (arith, x.up)))
      where
        stuck : run.from ≡ r.from → ⊥
        stuck e =
            let u = some_u in
            let w = u.1.1 in
            let same : u.0 ++ between s run.from r.from ≡ u.0 = ap (λ (n : ℕ). u.0 ++ between s run.from n) (sym e) ∙ ap (λ (l : List ℕ). u.0 ++ l) (between_none s run.from) ∙ append-nil u.0 in
            let none : w.units ≡ [] = none_ended (framing_of f) u.1.0 (subst (λ (l : List ℕ). Sofar (framing_of f) l w.units w.since) same w.so_far) in
            let at_same : r.at ≡ run.at + 0 = w.put.place ∙ rw none in
            let told_same : r.told ≡ run.told + 0 = w.tells.place ∙ rw none in
            stop (omega (arith, some, e)) (omega (arith, at_same, room)) (omega (arith, told_same, told-room))

  went_then : {u v s out told unit₁ out₁ told₁ unit₂ out₂ told₂ : List ℕ} {run r₁ r₂ : Run} → run.from ≤ r₁.from → r₁.from ≤ r₂.from → (x : WentOn f u s out told run unit₁ out₁ told₁ r₁) → v ≡ x.since → WentOn f v s out₁ told₁ r₁ unit₂ out₂ told₂ r₂ → WentOn f u s out told run unit₂ out₂ told₂ r₂
  went_then {u} {v} {s} {out} {told} {unit₁} {out₁} {told₁} {unit₂} {out₂} {told₂} {run} {r₁} {r₂} up on x e y =
      record {
        units = x.units ++ y.units;
        since = y.since;
        so_far =
            subst (λ (l : List ℕ). Sofar (framing_of f) l (x.units ++ y.units) y.since)
            (append_assoc u (between s run.from r₁.from) (between s r₁.from r₂.from) ∙ ap (λ (l : List ℕ). u ++ l) (sym (between_then s run.from r₁.from r₂.from up on)))
            (sofar_then (framing_of f) (between s r₁.from r₂.from) x.so_far (ap (λ (l : List ℕ). l ++ between s r₁.from r₂.from) e) y.so_far);
        keeps = y.keeps;
        counts_is = y.counts_is ∙ ap (λ (c : Counts). after (next_counts f) c y.units) x.counts_is ∙ sym (after_append (next_counts f) run.counts x.units y.units);
        put = rw (texts_append (next_counts f) (out_text f) run.counts x.units y.units, ← x.counts_is) (put_then x.put y.put);
        tells = rw (texts_append (next_counts f) (told_text f) run.counts x.units y.units, ← x.counts_is) (put_then x.tells y.tells);
      }

  pub took_then : {s unit out told unit₁ out₁ told₁ unit₂ out₂ told₂ : List ℕ} {run r₁ r₂ : Run} → Took f s unit out told run unit₁ out₁ told₁ r₁ → Took f s unit₁ out₁ told₁ r₁ unit₂ out₂ told₂ r₂ → Took f s unit out told run unit₂ out₂ told₂ r₂
  took_then x y =
      record {
        up = omega (arith, x.up, y.up);
        within = y.within;
        kept = y.kept;
        went = λ u o k. let w = x.went u o k in went_then x.up y.up w refl (y.went w.since (rest_left (framing_of f) w.so_far) w.keeps);
      }

  -- ---- one turn

  module _ (s unit out told : List ℕ) (run : Run) (unit₁ : List ℕ) (fed : FedModule.Fed) (some : run.from < length s) (kept : is_kept (framing_of f) unit run.state.held run.state.passed ≡ true) (bytes : Bytes unit₁) (x : FedFor (framing_of f) s run.from unit run.state.held run.state.passed unit₁ fed) where
    size : length unit ≡ 8192
    size = kept_length (framing_of f) unit run.state.held run.state.passed kept

    step : (u : List ℕ) (o : Rest (framing_of f) u) → Keeps (framing_of f) u unit run.state.held run.state.passed → Next (framing_of f) u [] u (between s run.from fed.at) s unit₁ fed
    step u o k = call_after (framing_of f) s run.from unit unit₁ fed size (Sofar.begun u o) (x u o k)

    ends_front : (u : List ℕ) → Rest (framing_of f) u → Keeps (framing_of f) u unit run.state.held run.state.passed → Whole (framing_of f) (u ++ between s run.from fed.at) → take (length (kept_text (framing_of f) (u ++ between s run.from fed.at))) unit₁ ≡ kept_text (framing_of f) (u ++ between s run.from fed.at)
    ends_front u o k w = ap (take (length (kept_text (framing_of f) (u ++ between s run.from fed.at)))) (x u o k).buffer ∙ stood_front (framing_of f) (u ++ between s run.from fed.at) unit size (whole_fits (framing_of f) (u ++ between s run.from fed.at) w)

    first_u : (u : List ℕ) × (Rest (framing_of f) u × Keeps (framing_of f) u unit run.state.held run.state.passed)
    first_u = let u = kept_some (framing_of f) unit run.state.held run.state.passed kept in (u.0, (u.1.0, u.1.1))

    -- the unit's bytes stand in the buffer
    pub turn_fits : text_length fed.unit ≤ length unit₁
    unfolding text_length
    turn_fits = go (step first_u.0 first_u.1.0 first_u.1.1)
      where
        go : Next (framing_of f) first_u.0 [] first_u.0 (between s run.from fed.at) s unit₁ fed → text_length fed.unit ≤ length unit₁
        go (Next.wants e n so k) = rw e (omega arith)
        go (Next.ends e w so k) = rw e (omega (arith, text_kept (framing_of f) (first_u.0 ++ between s run.from fed.at), whole_fits (framing_of f) (first_u.0 ++ between s run.from fed.at) w, k.size))

    pub still : is_kept (framing_of f) unit₁ fed.state.held fed.state.passed ≡ true
    still = go (step first_u.0 first_u.1.0 first_u.1.1)
      where
        go : Next (framing_of f) first_u.0 [] first_u.0 (between s run.from fed.at) s unit₁ fed → is_kept (framing_of f) unit₁ fed.state.held fed.state.passed ≡ true
        go (Next.wants e n so k) = still_kept (framing_of f) _ unit₁ fed.state.held fed.state.passed bytes (rest_left (framing_of f) so) k
        go (Next.ends e w so k) = still_kept (framing_of f) _ unit₁ fed.state.held fed.state.passed bytes (rest_left (framing_of f) so) k

    abbrev next : Run
    next = record { from = fed.at; state = fed.state; at = run.at; told = run.told; counts = run.counts }

    module _ {out₁ told₁ : List ℕ} {r : Run} (p : CutPut f fed.unit unit₁ out told next out₁ told₁ r) where
      went : (u : List ℕ) → Rest (framing_of f) u → Keeps (framing_of f) u unit run.state.held run.state.passed → WentOn f u s out told run unit₁ out₁ told₁ r
      unfolding texts after
      went u o k = go (step u o k)
        where
          at_from : {us : List (List ℕ)} {v : List ℕ} → Sofar (framing_of f) (u ++ between s run.from fed.at) us v → Sofar (framing_of f) (u ++ between s run.from r.from) us v
          at_from {us} {v} so = subst (λ (n : ℕ). Sofar (framing_of f) (u ++ between s run.from n) us v) (sym p.from_is) so

          in-state : {v : List ℕ} → Keeps (framing_of f) v unit₁ fed.state.held fed.state.passed → Keeps (framing_of f) v unit₁ r.state.held r.state.passed
          in-state {v} k = subst (λ (y : State). Keeps (framing_of f) v unit₁ y.held y.passed) (sym p.state_is) k

          go : Next (framing_of f) u [] u (between s run.from fed.at) s unit₁ fed → WentOn f u s out told run unit₁ out₁ told₁ r
          go (Next.wants e n so q) =
              let z = none_put p e in
              record { units = []; since = u ++ between s run.from fed.at; so_far = at_from so; keeps = in-state q; counts_is = z.counts_is; put = z.put; tells = z.tells }
          go (Next.ends e w so q) =
              let z = unit_put p (u ++ between s run.from fed.at) e (ends_front u o k w) in
              record {
                units = (u ++ between s run.from fed.at) ∷ [];
                since = [];
                so_far = at_from so;
                keeps = in-state q;
                counts_is = z.counts_is;
                put = rw (append-nil (out_text f run.counts (u ++ between s run.from fed.at))) z.put;
                tells = rw (append-nil (told_text f run.counts (u ++ between s run.from fed.at))) z.tells;
              }

      pub turn-took : Took f s unit out told run unit₁ out₁ told₁ r × (run.from < r.from)
      turn-took =
          let q = x first_u.0 first_u.1.0 first_u.1.1 in
          (record { up = omega (arith, q.up, p.from_is); within = omega (arith, q.within, p.from_is); kept = subst (λ (y : State). is_kept (framing_of f) unit₁ y.held y.passed ≡ true) (sym p.state_is) still; went = went }, omega (arith, takes_a_byte (framing_of f) first_u.1.0 some q, p.from_is))

  -- ---- the end

  module _ (unit : List ℕ) (run : Run) (kept : is_kept (framing_of f) unit run.state.held run.state.passed ≡ true) (cut : Unit) (d : FinishDone (framing_of f) unit run.state cut) where
    end_is : (u : List ℕ) → Rest (framing_of f) u → Keeps (framing_of f) u unit run.state.held run.state.passed → cut ≡ end_of (framing_of f) u
    end_is u o k = d.ended kept u o k

    pub end_fits : text_length cut ≤ length unit
    unfolding text_length end_of
    end_fits =
        let u = kept_some (framing_of f) unit run.state.held run.state.passed kept in
        go u.0 u.1.0 u.1.1 (end_is u.0 u.1.0 u.1.1)
      where
        go : (u : List ℕ) → Rest (framing_of f) u → Keeps (framing_of f) u unit run.state.held run.state.passed → cut ≡ end_of (framing_of f) u → text_length cut ≤ length unit
        go [] o k e = rw e (omega arith)
        go (b ∷ u) o k e = rw e (omega (arith, text_kept (framing_of f) (b ∷ u), rest_fits (framing_of f) (b ∷ u) o, k.size))

    module _ {out told out₁ told₁ out₂ told₂ : List ℕ} {mid r : Run} (p : CutPut f cut unit out told run out₁ told₁ mid) (q : LastPut f out₁ told₁ mid out₂ told₂ r) where
      pub finish-put : (u : List ℕ) → Rest (framing_of f) u → Keeps (framing_of f) u unit run.state.held run.state.passed → EndPut f u out told run out₂ told₂ r
      unfolding texts after closing end_of
      finish-put [] o k =
          let z = none_put p (end_is [] o k) in
          record {
            counts_is = q.counts_is ∙ z.counts_is;
            put = rw (← z.counts_is) (put_then z.put q.put);
            tells = rw (← z.counts_is) (put_then z.tells q.tells);
          }
      finish-put (b ∷ u) o k =
          let z = unit_put p (b ∷ u) (end_is (b ∷ u) o k) (keeps_front (framing_of f) k) in
          record {
            counts_is = q.counts_is ∙ z.counts_is;
            put = rw (append-nil (out_text f run.counts (b ∷ u)), ← z.counts_is) (put_then z.put q.put);
            tells = rw (append-nil (told_text f run.counts (b ∷ u)), ← z.counts_is) (put_then z.tells q.tells);
          }
