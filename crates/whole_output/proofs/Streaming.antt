-- A stream in parts: the units that have ended and what is open, over any chain of calls; at the end the texts of all units. Assumes nothing.
use Prim.Native.Nat.{ℕ, ◌≤◌}
use mathlib.Core.Path.{◌≡◌, refl, sym, ap, subst, ◌∙◌}
use mathlib.Core.List.{List, [], ◌++◌, append_assoc}
use native.Mathlib.Omega.{arith}
use lib.ListN.{length, take}
use Rattle.units.specs.declared.State.{State}
use Rattle.units.specs.Units.{Rest, Sofar, Units, closing}
use Rattle.units.specs.Kept.{kept_text, kept_count, Keeps}
use Rattle.units.specs.Feeding.{between}
use Rattle.units.proofs.Streams.{rest_left, sofar_then, at_end}
use Rattle.units.proofs.WhatIsKept.{nothing_kept}
use Rattle.filters.specs.declared.Filter.{Filter}
use Rattle.filters.specs.declared.Counts.{Counts}
use Rattle.filters.specs.declared.Run.{Run}
use Rattle.filters.specs.Texts.{framing_of}
use Rattle.filters.specs.Filter.{out_text, told_text, next_counts, last_out, last_told, after, texts}
use Rattle.filters.specs.Calls.{WentOn}
use Rattle.filters.proofs.Parts.{put_between, after_append, texts_append}
use Rattle.whole_output.specs.Chains.{fresh, begun, Calls, Went}

module _ (f : Filter) where
  -- what a chain of calls has done: the units that have ended are counted and their texts put out, and of what is open the rest is kept
  pub record SoFar (taken put told held : List ℕ) (st : State) (c : Counts) : Type 0 where
    pub units : List (List ℕ)
    pub since : List ℕ
    pub so_far : Sofar (framing_of f) taken units since
    pub within : st.held ≤ 8192
    pub held_is : held ≡ kept_text (framing_of f) since
    pub passed_is : st.passed ≡ kept_count (framing_of f) since
    pub counts_is : c ≡ after (next_counts f) fresh units
    pub put_is : put ≡ texts (next_counts f) (out_text f) fresh units
    pub told_is : told ≡ texts (next_counts f) (told_text f) fresh units

  none_yet : SoFar [] [] [] [] begun fresh
  unfolding texts after
  none_yet =
      record {
        units = [];
        since = [];
        so_far = Sofar.begun [] (Rest.none refl);
        within = omega arith;
        held_is = sym (nothing_kept (framing_of f)).0;
        passed_is = sym (nothing_kept (framing_of f)).1;
        counts_is = refl;
        put_is = refl;
        told_is = refl;
      }

  -- the unit's buffer keeps what is open
  keeps_since : {taken put told held : List ℕ} {st : State} {c : Counts} (x : SoFar taken put told held st c) (unit : List ℕ) (st' : State) → length unit ≡ 8192 → take st.held unit ≡ held → st' ≡ st → Keeps (framing_of f) x.since unit st'.held st'.passed
  keeps_since {st = st} x unit st' size text same =
      subst (λ (y : State). Keeps (framing_of f) x.since unit y.held y.passed) (sym same)
      (record { size = size; within = x.within; text_is = text ∙ x.held_is; passed_is = x.passed_is })

  one_more_call : {taken put told held : List ℕ} {c : Counts} {st : State} (x : SoFar taken put told held st c) (s out tell : List ℕ) (run : Run) (unit' out' tell' : List ℕ) (r : Run) → run.counts ≡ c → WentOn f x.since s out tell run unit' out' tell' r
      → SoFar (taken ++ between s run.from r.from) (put ++ between out' run.at r.at) (told ++ between tell' run.told r.told) (take r.state.held unit') r.state r.counts
  one_more_call {taken} {put} {told} {held} {c} {st} x s out tell run unit' out' tell' r same w =
      let counted : run.counts ≡ after (next_counts f) fresh x.units = same ∙ x.counts_is in
      record {
        units = x.units ++ w.units;
        since = w.since;
        so_far = sofar_then (framing_of f) (between s run.from r.from) x.so_far refl w.so_far;
        within = w.keeps.within;
        held_is = w.keeps.text_is;
        passed_is = w.keeps.passed_is;
        counts_is = w.counts_is ∙ ap (λ (d : Counts). after (next_counts f) d w.units) counted ∙ sym (after_append (next_counts f) fresh x.units w.units);
        put_is =
            ap (λ (t : List ℕ). put ++ t) (put_between w.put ∙ ap (λ (d : Counts). texts (next_counts f) (out_text f) d w.units) counted)
            ∙ ap (λ (t : List ℕ). t ++ texts (next_counts f) (out_text f) (after (next_counts f) fresh x.units) w.units) x.put_is
            ∙ sym (texts_append (next_counts f) (out_text f) fresh x.units w.units);
        told_is =
            ap (λ (t : List ℕ). told ++ t) (put_between w.tells ∙ ap (λ (d : Counts). texts (next_counts f) (told_text f) d w.units) counted)
            ∙ ap (λ (t : List ℕ). t ++ texts (next_counts f) (told_text f) (after (next_counts f) fresh x.units) w.units) x.told_is
            ∙ sym (texts_append (next_counts f) (told_text f) fresh x.units w.units);
      }

  pub calls_so_far : {taken put told held : List ℕ} {st : State} {c : Counts} → Calls f taken put told held st c → SoFar taken put told held st c
  calls_so_far Calls.none = none_yet
  calls_so_far (Calls.call s unit out tell run unit' out' tell' r before size text same counts t) =
      let x = calls_so_far before in
      one_more_call x s out tell run unit' out' tell' r counts (t.went x.since (rest_left (framing_of f) x.so_far) (keeps_since x unit run.state size text same))

  -- an input that went through: its units, and the texts of all of them
  pub record Through (input put told : List ℕ) : Type 0 where
    pub units : List (List ℕ)
    pub are : Units (framing_of f) input units
    pub put_is : put ≡ texts (next_counts f) (out_text f) fresh units ++ last_out f (after (next_counts f) fresh units)
    pub told_is : told ≡ texts (next_counts f) (told_text f) fresh units ++ last_told f (after (next_counts f) fresh units)

  pub went_through : {input put told : List ℕ} → Went f input put told → Through input put told
  went_through {input} {put} {told} w =
      let x = calls_so_far w.calls in
      let e = w.finish x.since (rest_left (framing_of f) x.so_far) (keeps_since x w.unit w.run.state w.size w.held_is w.state_passes) in
      let counted : w.run.counts ≡ after (next_counts f) fresh x.units = w.counts_pass ∙ x.counts_is in
      let last : after (next_counts f) w.run.counts (closing x.since) ≡ after (next_counts f) fresh (x.units ++ closing x.since) = ap (λ (d : Counts). after (next_counts f) d (closing x.since)) counted ∙ sym (after_append (next_counts f) fresh x.units (closing x.since)) in
      record {
        units = x.units ++ closing x.since;
        are = at_end (framing_of f) x.so_far;
        put_is =
            w.put_is
            ∙ ap (λ (t : List ℕ). w.put_before ++ t) (put_between e.put ∙ ap (λ (d : Counts). texts (next_counts f) (out_text f) w.run.counts (closing x.since) ++ last_out f d) last ∙ ap (λ (d : Counts). texts (next_counts f) (out_text f) d (closing x.since) ++ last_out f (after (next_counts f) fresh (x.units ++ closing x.since))) counted)
            ∙ ap (λ (t : List ℕ). t ++ (texts (next_counts f) (out_text f) (after (next_counts f) fresh x.units) (closing x.since) ++ last_out f (after (next_counts f) fresh (x.units ++ closing x.since)))) x.put_is
            ∙ sym (append_assoc (texts (next_counts f) (out_text f) fresh x.units) (texts (next_counts f) (out_text f) (after (next_counts f) fresh x.units) (closing x.since)) (last_out f (after (next_counts f) fresh (x.units ++ closing x.since))))
            ∙ ap (λ (t : List ℕ). t ++ last_out f (after (next_counts f) fresh (x.units ++ closing x.since))) (sym (texts_append (next_counts f) (out_text f) fresh x.units (closing x.since)));
        told_is =
            w.told_is
            ∙ ap (λ (t : List ℕ). w.told_before ++ t) (put_between e.tells ∙ ap (λ (d : Counts). texts (next_counts f) (told_text f) w.run.counts (closing x.since) ++ last_told f d) last ∙ ap (λ (d : Counts). texts (next_counts f) (told_text f) d (closing x.since) ++ last_told f (after (next_counts f) fresh (x.units ++ closing x.since))) counted)
            ∙ ap (λ (t : List ℕ). t ++ (texts (next_counts f) (told_text f) (after (next_counts f) fresh x.units) (closing x.since) ++ last_told f (after (next_counts f) fresh (x.units ++ closing x.since)))) x.told_is
            ∙ sym (append_assoc (texts (next_counts f) (told_text f) fresh x.units) (texts (next_counts f) (told_text f) (after (next_counts f) fresh x.units) (closing x.since)) (last_told f (after (next_counts f) fresh (x.units ++ closing x.since))))
            ∙ ap (λ (t : List ℕ). t ++ last_told f (after (next_counts f) fresh (x.units ++ closing x.since))) (sym (texts_append (next_counts f) (told_text f) fresh x.units (closing x.since)));
      }
