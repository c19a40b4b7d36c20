-- The reasons beside the entry: the number that a key says is the number its field was read from, and the numbers that the pieces say, in order,
-- are the dwords; and strict refuses the pieces exactly where one of them says none. Assumes nothing.
use Rattle.std.specs.Prelude.{Err, None, Ok, Option, Result, Some}
use Rattle.text.specs.declared.number.BadNumber.{BadNumber}
use Rattle.text.specs.declared.number.BadNumber.TheVariants as BadNumber
use Prim.Native.Nat.{ℕ, suc, ◌+◌, ◌-◌, ◌^◌, ◌≤◌, ◌<◌}
use mathlib.Core.Path.{◌≡◌, refl, sym, ap, ◌∙◌}
use mathlib.Core.List.{List, [], ◌∷◌, ◌++◌, append_assoc}
use mathlib.Core.Logic.{◌↔◌}
use native.Mathlib.Omega.{arith}
use lib.ListN.{length, take, drop, get_or, length-append}
use lib.Seq.{split_at, length-take-le}
use Rattle.text.specs.Told.{Told, is, absent, refused}
use Rattle.text.specs.Number.{Means, hex_number_of}
use Rattle.std.specs.Result.{result_ok}
use Rattle.text.specs.Quote.{bytes}
use Rattle.text.proofs.Hexes.{hex_is, one_meaning}
use Rattle.entry.specs.Entry.{EntryValue}
use Rattle.pairs.specs.declared.pair.Span.{Span}
use Rattle.pairs.specs.Pair.{part, last_pair, hex_at, span}
use Rattle.pairs.specs.Data.{NoDword, Data, PieceIn, joined, cut, piece_of, taken, dwords_in, nth_piece}
use Rattle.pairs.proofs.LastPairs.{hex_some, hex_none}
use Rattle.pairs.proofs.Cuts.{cut_all}
use Rattle.pairs.proofs.Slots.{dwords_in_all}
use Rattle.pairs.proofs.Pieces.{nth_is, nth_all}
use Rattle.scan.specs.declared.Pieces.{Pieces}
use Rattle.scan.specs.declared.Pieces.TheVariants.{Strict}
use Rattle.scan.specs.Frame.{frame_of}
use Rattle.scan.specs.Line.{Line, KeyHex, Optional, BadPiece, Has, Condition, order_of, Applies}
use Rattle.scan.specs.Parse.{payload_of, with_frame, parse_of}
use Rattle.scan.proofs.Keys.{key_hex_is}
use Rattle.scan.proofs.Splits.{one_payload}
use Rattle.scan.proofs.Values.{optional_hex}
use Rattle.scan.proofs.Framed.{Framed, framed, frame_applies}
use Rattle.scan.proofs.Theorems.{one_key_hex, one_optional, line_entry_all}
use Rattle.reasons.specs.declared.Key.{Key}
use Rattle.reasons.specs.declared.Key.TheVariants as K
use Rattle.reasons.specs.declared.HexText.{HexText}
use Rattle.reasons.specs.Reasons.{name_of, limit_of, said_at, key_in, key_answer, piece_in, piece_at, piece_answer, data_span}
use Rattle.reasons.specs.Meaning.{KeyAt, PieceAt, number_told, NoNumber, SaysNumber, field_of, kept, piece_numbers, InOrder, PieceWithout}
use Rattle.reasons.proofs.Spots.{key_answers}
use Rattle.reasons.proofs.Pieces.{one_piece, data_found, inner_is, piece_answers}
use Rattle.reasons.proofs.Told.{start_at, last_colon, split_here, own_place, few_before, asks, told_means}

-- ---- the number that is told

number_there : (told : Told HexText) {n : ℕ} → number_told told ≡ Some n → SaysNumber told n
number_there (is said) {n} q = go said.reading refl q
  where
    go : (r : Result ℕ BadNumber) → said.reading ≡ r → (result_ok r) ≡ Some n → SaysNumber (is said) n
    go (Ok v) e q = record { said = said; found = refl; reads = e ∙ ap Ok (let same : v ≡ n = cc in same) }
    go (Err BadNumber.Empty) e q = absurd (let z : ◌≡◌ {A = ℕ} 0 1 = cc in omega arith)
    go (Err (BadNumber.BadDigit k)) e q = absurd (let z : ◌≡◌ {A = ℕ} 0 1 = cc in omega arith)
    go (Err BadNumber.TooWide) e q = absurd (let z : ◌≡◌ {A = ℕ} 0 1 = cc in omega arith)
number_there absent q = absurd (let z : ◌≡◌ {A = ℕ} 0 1 = cc in omega arith)
number_there (refused k) q = absurd (let z : ◌≡◌ {A = ℕ} 0 1 = cc in omega arith)

there_number : (told : Told HexText) {n : ℕ} → SaysNumber told n → number_told told ≡ Some n
there_number told r = rw (r.found, r.reads)

none_there : (told : Told HexText) → ((k : ℕ) → told ≡ refused k → ⊥) → number_told told ≡ None → NoNumber told
none_there (is said) never q = go said.reading refl q
  where
    go : (r : Result ℕ BadNumber) → said.reading ≡ r → (result_ok r) ≡ None → NoNumber (is said)
    go (Ok v) e q = absurd (let z : ◌≡◌ {A = ℕ} 0 1 = cc in omega arith)
    go (Err BadNumber.Empty) e q = NoNumber.empty e
    go (Err (BadNumber.BadDigit k)) e q = NoNumber.bad k e
    go (Err BadNumber.TooWide) e q = NoNumber.wide e
none_there absent never q = NoNumber.missing
none_there (refused k) never q = absurd (never k refl)

there_none : {told : Told HexText} → NoNumber told → number_told told ≡ None
there_none NoNumber.missing = refl
there_none (NoNumber.empty e) = rw e
there_none (NoNumber.bad k e) = rw e
there_none (NoNumber.wide e) = rw e

-- ---- a key's number

module _ (t : List ℕ) {colon : ℕ} (f : frame_of t ≡ is colon) (key : Key) where
  key_asks : key_answer t key ≡ key_in (payload_of t colon) (start_at t colon) key
  unfolding key_answer
  key_asks = asks (KeyAt key) (limit_of key) (λ p start. key_in p start key) (key_answers key) t f

  key_never : (k : ℕ) → key_answer t key ≡ refused k → ⊥
  key_never k q = (key_answers key).never (payload_of t colon) (start_at t colon) k (sym key_asks ∙ q)

  -- what is told is the number that the entry's reader has
  key_number : number_told (key_answer t key) ≡ (hex_at (payload_of t colon) (name_of key) (limit_of key))
  unfolding key_in said_at
  key_number = rw key_asks (go (last_pair (payload_of t colon) (name_of key)) refl)
    where
      go : (s : Option Span) → last_pair (payload_of t colon) (name_of key) ≡ s
          → number_told (said_at (limit_of key) (start_at t colon) (payload_of t colon) s) ≡ (hex_at (payload_of t colon) (name_of key) (limit_of key))
      go (Some w) e = hex_some (payload_of t colon) (name_of key) (limit_of key) e
      go None e = hex_none (payload_of t colon) (name_of key) (limit_of key) e

-- an accepted line is parted
line_framed : (pieces : Pieces) (t : List ℕ) {v : EntryValue} → Line pieces t v → (colon : ℕ) × (frame_of t ≡ is colon)
unfolding parse_of with_frame
line_framed pieces t l = go (frame_of t) refl (framed t)
  where
    go : (x : Told ℕ) → frame_of t ≡ x → Framed x → (colon : ℕ) × (frame_of t ≡ is colon)
    go x f (Framed.colon k) = (k, f)
    go x f (Framed.number k h) =
        let e = line_entry_all pieces t l in
        let no : parse_of pieces t 256 ≡ refused k = rw f in
        absurd (let z : ◌≡◌ {A = ℕ} 0 1 = cc in omega arith)

line_field : {pieces : Pieces} {t : List ℕ} {v : EntryValue} (l : Line pieces t v) (key : Key) → Optional (KeyHex l.payload (name_of key) (limit_of key)) (field_of key v)
line_field l K.Route = l.route
line_field l K.Offset = l.offset
line_field l K.Error = l.code
line_field l K.Config = l.config
line_field l K.Unplug = l.unplug

pub number_of_field : (pieces : Pieces) (t : List ℕ) {v : EntryValue} → Line pieces t v → (key : Key) → number_told (key_answer t key) ≡ field_of key v
number_of_field pieces t {v} l key =
    let w = line_framed pieces t l in
    let same : l.payload ≡ payload_of t w.0 = one_payload t (last_colon t w.1) l.split in
    key_number t w.1 key
    ∙ one_optional (KeyHex (payload_of t w.0) (name_of key) (limit_of key)) (λ x y. one_key_hex (payload_of t w.0) (name_of key) (limit_of key)) _ (field_of key v)
    (optional_hex (payload_of t w.0) (name_of key) (limit_of key)) (rw (← same) (line_field l key))

pub number_exactly : (pieces : Pieces) (t : List ℕ) {v : EntryValue} → Line pieces t v → (key : Key) (n : ℕ) → SaysNumber (key_answer t key) n ↔ (field_of key v ≡ Some n)
number_exactly pieces t l key n =
    (λ r. sym (number_of_field pieces t l key) ∙ there_number (key_answer t key) r, λ e. number_there (key_answer t key) (number_of_field pieces t l key ∙ e))

pub none_exactly : (pieces : Pieces) (t : List ℕ) {v : EntryValue} → Line pieces t v → (key : Key) → NoNumber (key_answer t key) ↔ (field_of key v ≡ None)
none_exactly pieces t l key = (
  λ r. sym (number_of_field pieces t l key) ∙ there_none r,
  λ e. none_there (key_answer t key) (key_never t (line_framed pieces t l).1 key) (number_of_field pieces t l key ∙ e),
)

-- ---- a line refused with 14

pub no_route : (pieces : Pieces) (t : List ℕ) (room : ℕ) → Applies pieces t room 14 → NoNumber (key_answer t K.Route)
unfolding Condition
no_route pieces t room r = go (frame_of t) refl (framed t)
  where
    none_read : {colon : ℕ} → frame_of t ≡ is colon → (o : Option ℕ) → number_told (key_answer t K.Route) ≡ o → o ≡ None
    none_read {colon} f None e = refl
    none_read {colon} f (Some v) e = absurd (route-missing f v (sym (key_number t f K.Route) ∙ e))
      where
        route-missing : frame_of t ≡ is colon → (v : ℕ) → (hex_at (payload_of t colon) (bytes "route") (2 ^ 64 - 1)) ≡ Some v → ⊥
        route-missing f v e = r.holds _ _ (split_here t f) v (key_hex_is (payload_of t colon) (bytes "route") (2 ^ 64 - 1) e)

    go : (x : Told ℕ) → frame_of t ≡ x → Framed x → NoNumber (key_answer t K.Route)
    go x f (Framed.colon k) = none_there (key_answer t K.Route) (key_never t f K.Route) (none_read f (number_told (key_answer t K.Route)) refl)
    go x f (Framed.number k h) = absurd (r.first k (omega (arith, own_place k (omega arith), own_place 14 (omega arith))) (frame_applies pieces t room f).holds)

-- ---- the pieces, in order

-- a number in front is what a piece adds
kept_taken : (n : Option ℕ) (ds : List ℕ) → kept (n) ds ≡ taken (n) ds
unfolding taken
kept_taken (Some v) ds = refl
kept_taken None ds = refl

module _ (t : List ℕ) {colon : ℕ} (f : frame_of t ≡ is colon) {c d : ℕ} (found : data_span (payload_of t colon) ≡ span c d) where
  inner : List ℕ
  inner = part (payload_of t colon) c d

  piece_asks : (i : ℕ) → piece_answer t i ≡ said_at (2 ^ 32 - 1) (start_at t colon + c) inner (nth_piece i inner 0)
  unfolding piece_answer piece_in piece_at inner
  piece_asks i = asks (PieceAt i) (2 ^ 32 - 1) (λ p start. piece_in p start i) (piece_answers i) t f ∙ rw found

  -- a piece that is there is told of, with its number
  piece_told : (before after : List (List ℕ)) (piece : List ℕ) → cut inner ≡ before ++ (piece ∷ after)
      → (said : HexText) × (piece_answer t (length before) ≡ is said) × (number_told (piece_answer t (length before)) ≡ (hex_number_of (2 ^ 32 - 1) piece))
  unfolding said_at
  piece_told before after piece e =
      let here : PieceIn (cut inner) (length before) piece (length (joined before)) (length (joined before) + length piece) =
      record { before = before; after = after; are = e; count = refl; starts = refl; ends = refl } in
      let n = nth_all inner here in
      let told = piece_asks (length before) ∙ ap (said_at (2 ^ 32 - 1) (start_at t colon + c) inner) n in
      let same : part inner (length (joined before)) (length (joined before) + length piece) ≡ piece = one_piece (nth_is inner (length before) n) here in (
        _,
        told,
        ap number_told told ∙ ap (λ (x : List ℕ). (hex_number_of (2 ^ 32 - 1) x)) same,
      )

  numbers_are : (before after : List (List ℕ)) → cut inner ≡ before ++ after → piece_numbers t (length after) (length before) ≡ dwords_in after
  unfolding piece_numbers dwords_in piece_of
  numbers_are before [] e = refl
  numbers_are before (piece ∷ after) e =
      let w = piece_told before after piece e in
      let next : length (before ++ (piece ∷ [])) ≡ suc (length before) = omega (arith, length-append before (piece ∷ [])) in
      let rest : cut inner ≡ (before ++ (piece ∷ [])) ++ after = e ∙ sym (append_assoc before (piece ∷ []) after) in
      ap (λ (o : Option ℕ). kept o (piece_numbers t (length after) (suc (length before)))) w.2
      ∙ ap (kept (hex_number_of (2 ^ 32 - 1) piece)) (ap (piece_numbers t (length after)) (sym next) ∙ numbers_are (before ++ (piece ∷ [])) after rest)
      ∙ kept_taken (hex_number_of (2 ^ 32 - 1) piece) (dwords_in after)

  told_of : (i : ℕ) → i < length (cut inner) → (said : HexText) × (piece_answer t i ≡ is said)
  told_of i h =
      let w = piece_told (take i (cut inner)) (drop (suc i) (cut inner)) (get_or (cut inner) i []) (split_at (cut inner) i [] h) in
      let size : length (take i (cut inner)) ≡ i = length-take-le i (cut inner) (omega arith) in
      (w.0, ap (piece_answer t) (sym size) ∙ w.1)

  none_behind : (i : ℕ) → length (cut inner) ≤ i → piece_answer t i ≡ absent
  unfolding said_at
  none_behind i h = piece_asks i ∙ go (nth_piece i inner 0) refl
    where
      go : (s : Option Span) → nth_piece i inner 0 ≡ s → said_at (2 ^ 32 - 1) (start_at t colon + c) inner s ≡ absent
      go (Some w) e =
          let r = nth_is inner i e in
          absurd (omega (arith, h, r.count, ap length r.are, length-append r.before (part inner w.from w.to ∷ r.after)))
      go None e = refl

pub in_order : (pieces : Pieces) (t : List ℕ) {v : EntryValue} → Line pieces t v → InOrder t v.dwords
unfolding inner
in_order pieces t {v} l =
    let w = line_framed pieces t l in
    let f = w.1 in
    let same : l.payload ≡ payload_of t w.0 = one_payload t (last_colon t f) l.split in
    let value = l.dwords.found in
    let held : Data (part l.payload value.from value.to) v.dwords = rw (← value.is) l.dwords.brackets in
    let found = data_found l.payload value.last held in
    let inner-so = inner_is l.payload value.last held in
    go w.0 f (rw same at found) held (rw same at inner-so)
  where
    go : (colon : ℕ) (f : frame_of t ≡ is colon) {c d : ℕ} (found : data_span (payload_of t colon) ≡ span c d) {value : List ℕ} (held : Data value v.dwords) → part (payload_of t colon) c d ≡ held.inner → InOrder t v.dwords
    go colon f {c} {d} found held e =
        let all : cut (part (payload_of t colon) c d) ≡ held.pieces = ap cut e ∙ cut_all held.cut_at in
        record {
          count = length held.pieces;
          there = λ i h. told_of t f found i (rw all h);
          behind = λ i h. none_behind t f found i (rw all h);
          are = sym (dwords_in_all held.dwords) ∙ sym (numbers_are t f found [] held.pieces all);
        }

-- ---- a line refused with 18

-- a piece that says no number is not 32-bit hex, and the other way round
module _ (p : List ℕ) where
  no_dword_unread : NoDword p → (hex_number_of (2 ^ 32 - 1) p) ≡ None
  no_dword_unread n = go (hex_number_of (2 ^ 32 - 1) p) refl
    where
      go : (h : Option ℕ) → hex_number_of (2 ^ 32 - 1) p ≡ h → h ≡ None
      go (Some v) e = absurd (n v (hex_is (2 ^ 32 - 1) e))
      go None e = refl

  unread_no_dword : (r : Result ℕ BadNumber) → Means (2 ^ 32 - 1) p r → (result_ok r) ≡ None → NoDword p
  unread_no_dword r m e v n =
      let same : r ≡ Ok v = one_meaning (2 ^ 32 - 1) p r (Ok v) m n in
      let z : ◌≡◌ {A = ℕ} 0 1 = cc in
      omega arith

-- the same data, of a value that is the same
abbrev data_of : {value other ds : List ℕ} → value ≡ other → Data value ds → Data other ds
data_of e r =
    record {
      inner = r.inner;
      brackets = sym e ∙ r.brackets;
      some = r.some;
      no_close = r.no_close;
      pieces = r.pieces;
      cut_at = r.cut_at;
      dwords = r.dwords;
    }

module _ (t : List ℕ) where
  -- a bad piece is told of, and says no number
  bad_told : {colon : ℕ} → frame_of t ≡ is colon → BadPiece (payload_of t colon) → PieceWithout t
  unfolding inner
  bad_told {colon} f b =
      let value = b.are.found in
      let held = data_of value.is b.are.brackets in
      let found = data_found (payload_of t colon) value.last held in
      let all : cut (part (payload_of t colon) (value.from + 1) (value.from + (length held.inner + 1))) ≡ b.piece.before ++ (b.piece.piece ∷ b.piece.after) =
      ap cut (inner_is (payload_of t colon) value.last held) ∙ cut_all held.cut_at ∙ b.piece.are in
      let w = piece_told t f found b.piece.before b.piece.after b.piece.piece all in
      let none_told : number_told (is w.0) ≡ None = ap number_told (sym w.1) ∙ w.2 ∙ no_dword_unread b.piece.piece b.piece.bad in
      record {
        which = length b.piece.before;
        said = w.0;
        told = w.1;
        no_number = none_there (is w.0) (λ k q. absurd (let z : ◌≡◌ {A = ℕ} 0 1 = cc in omega arith)) none_told;
      }

  -- a piece that is told of and says no number is bad
  told_bad : PieceWithout t → Has t BadPiece
  unfolding piece_answer
  told_bad b =
      let s = (told_means (PieceAt b.which) (2 ^ 32 - 1) (λ p start. piece_in p start b.which) (piece_answers b.which) t (is b.said) b.told).1 in
      let at = s.there in
      record {
        header = s.header;
        payload = s.payload;
        split = s.split;
        there =
            record {
              dwords = at.dwords;
              are =
                  record {
                    value = part s.payload at.from at.to;
                    found = record { from = at.from; to = at.to; last = at.last; is = refl };
                    brackets = at.in_brackets;
                  };
              piece =
                  record {
                    before = at.piece.before;
                    piece = s.text;
                    after = at.piece.after;
                    are = at.piece.are;
                    bad = unread_no_dword s.text b.said.reading s.reads (there_none b.no_number);
                  };
            };
      }

pub bad_exactly : (t : List ℕ) (room : ℕ) → Applies Strict t room 18 ↔ (((k : ℕ) → k ≤ 15 → Condition Strict t room k → ⊥) × PieceWithout t)
unfolding Condition order_of
bad_exactly t room = (mp, mpr)
  where
    mp : Applies Strict t room 18 → ((k : ℕ) → k ≤ 15 → Condition Strict t room k → ⊥) × PieceWithout t
    mp a = (λ k h c. a.first k (omega (arith, own_place k h)) c, go (frame_of t) refl (framed t))
      where
        go : (x : Told ℕ) → frame_of t ≡ x → Framed x → PieceWithout t
        go x f (Framed.colon k) = bad_told t f (rw (one_payload t (last_colon t f) a.holds.split) at a.holds.there)
        go x f (Framed.number k h) = absurd (a.first k (omega (arith, own_place k (omega arith))) (frame_applies Strict t room f).holds)

    mpr : ((k : ℕ) → k ≤ 15 → Condition Strict t room k → ⊥) × PieceWithout t → Applies Strict t room 18
    mpr x =
        let h = told_bad t x.1 in
        record {
          holds = record { header = h.header; payload = h.payload; split = h.split; there = h.there };
          first = λ j l c. x.0 j (few_before j l) c;
        }
