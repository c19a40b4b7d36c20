-- However the input is cut into parts, what the calls put out in order is the definition for its units: each output is the general law with that output's
-- text, and the counts count. Assumes nothing.
use Prim.Native.Nat.{ℕ, ◌^◌, ◌<◌}
use mathlib.Core.Path.{◌≡◌, refl, ap, ◌∙◌}
use mathlib.Core.List.{List, [], ◌++◌, append-nil}
use lib.ListN.{length}
use Rattle.scan.specs.declared.Pieces.{Pieces}
use Rattle.units.specs.declared.Framing.TheVariants.{Lines, Both}
use Rattle.units.specs.Units.{Units}
use Rattle.units.proofs.Streams.{one_units}
use Rattle.filters.specs.declared.Filter.{Filter}
use Rattle.filters.specs.declared.Filter.TheVariants as F
use Rattle.filters.specs.Texts.{framing_of, seen_of}
use Rattle.filters.specs.Filter.{out_by, tell_by, out_text, told_text, next_counts, last_out, last_told, after, texts}
use Rattle.units.proofs.Existence.{has_units}
use Rattle.units.proofs.Streams.{one_units}
use Rattle.whole_output.specs.Output.{listing_of, unpacking_of, packing_of, packing_tells}
use Rattle.whole_output.specs.Chains.{fresh, Went, WholeOutput}
use Rattle.whole_output.proofs.Streaming.{went_through}
use Rattle.whole_output.proofs.Counting.{listed_is, tells_nothing, records_are, tells_are}

module _ (f : Filter) {input put told : List ℕ} (w : Went f input put told) (us : List (List ℕ)) (are : Units (framing_of f) input us) where
  few : length us < 2 ^ 64
  few = w.few us are

  same : (went_through f w).units ≡ us
  same = one_units (framing_of f) refl (went_through f w).are are

  put_whole : put ≡ texts (next_counts f) (out_text f) fresh us ++ last_out f (after (next_counts f) fresh us)
  put_whole = (went_through f w).put_is ∙ ap (λ (l : List (List ℕ)). texts (next_counts f) (out_text f) fresh l ++ last_out f (after (next_counts f) fresh l)) same

  told_whole : told ≡ texts (next_counts f) (told_text f) fresh us ++ last_told f (after (next_counts f) fresh us)
  told_whole = (went_through f w).told_is ∙ ap (λ (l : List (List ℕ)). texts (next_counts f) (told_text f) fresh l ++ last_told f (after (next_counts f) fresh l)) same

pub listing_is_whole : (input put told : List ℕ) (us : List (List ℕ)) → Went F.Listing input put told → Units Lines input us → (put ≡ listing_of us) × (told ≡ [])
unfolding out_text out_by told_text tell_by last_out last_told listing_of seen_of
listing_is_whole input put told us w x =
    (put_whole F.Listing w us x ∙ listed_is F.Listing us (w.few us x) (λ c u. refl) (λ c. refl), told_whole F.Listing w us x ∙ tells_nothing F.Listing (λ c u. refl) (λ c. refl) fresh us)

module _ (pieces : Pieces) where
  pub unpacking_is_whole : (input put told : List ℕ) (us : List (List ℕ)) → Went (F.Unpack pieces) input put told → Units Both input us → (put ≡ unpacking_of pieces us) × (told ≡ [])
  unfolding out_text out_by told_text tell_by last_out last_told unpacking_of seen_of
  unpacking_is_whole input put told us w x =
      (put_whole (F.Unpack pieces) w us x ∙ listed_is (F.Unpack pieces) us (w.few us x) (λ c u. refl) (λ c. refl), told_whole (F.Unpack pieces) w us x ∙ tells_nothing (F.Unpack pieces) (λ c u. refl) (λ c. refl) fresh us)

  pub packing_is_whole : (input put told : List ℕ) (us : List (List ℕ)) → Went (F.Pack pieces) input put told → Units Both input us → (put ≡ packing_of pieces us) × (told ≡ packing_tells pieces us)
  unfolding last_out
  packing_is_whole input put told us w x =
      (put_whole (F.Pack pieces) w us x ∙ append-nil (texts (next_counts (F.Pack pieces)) (out_text (F.Pack pieces)) fresh us) ∙ records_are pieces fresh us, told_whole (F.Pack pieces) w us x ∙ tells_are pieces us (w.few us x))

pub whole_output : WholeOutput
whole_output =
    record {
      has_units = has_units;
      one_list = λ f s us vs x y. one_units f refl x y;
      listing = listing_is_whole;
      packing = packing_is_whole;
      unpacking = unpacking_is_whole;
    }
