-- What the one walk keeps of each key is what the payload's definitions say of it, a line a key: its row of the table has the base and the
-- width that the definition asks for. Assumes nothing.
use Rattle.std.specs.Prelude.{None, Some}
use Prim.Native.Nat.{ℕ, ◌-◌, ◌^◌, ◌≤◌, ◌<◌}
use mathlib.Core.Path.{◌≡◌, refl}
use mathlib.Core.List.{List}
use native.Mathlib.Omega.{arith}
use lib.ListN.{length, get_or}
use Rattle.text.specs.Quote.{bytes}
use Rattle.pairs.specs.Pair.{last_pair, decimal_of, hex_at}
use Rattle.pairs.specs.Table.{keys, row_at}
use Rattle.walk.specs.declared.last.LastPairs.{LastPairs}
use Rattle.walk.specs.Kept.{kept_in, LastKept, number_in, part_in, base_of, limit_of}
use Rattle.walk.proofs.Said.{read_key, stands, says, says_most}

module _ (p : List ℕ) {last : LastPairs} (w : LastKept p last) where
  -- what is kept for a row of a number: what the row's key says, within the row's width
  said : (k : ℕ) → k < length keys → 0 < base_of (row_at k).form → read_key (row_at k).form p (row_at k).name ≡ number_in (get_or last.rows k None)
  said k h b = says p (row_at k) (w.each k h) b

  most : (k : ℕ) → k < length keys → 0 < base_of (row_at k).form → {v : ℕ} → number_in (get_or last.rows k None) ≡ Some v → v ≤ limit_of (row_at k).form
  most k h b e = says_most p (row_at k) (w.each k h) b e

  -- ---- a line a key
  pub type_there : part_in (get_or last.rows 0 None) ≡ last_pair p (bytes "type")
  unfolding row_at keys kept_in
  type_there = stands p (row_at 0) (w.each 0 (omega arith)) (λ a b. refl)

  pub data_there : part_in (get_or last.rows 4 None) ≡ last_pair p (bytes "data")
  unfolding row_at keys kept_in
  data_there = stands p (row_at 4) (w.each 4 (omega arith)) (λ a b. refl)

  pub size_said : decimal_of p (bytes "size") (2 ^ 16 - 1) ≡ number_in (get_or last.rows 1 None)
  unfolding row_at keys base_of
  size_said = said 1 (omega arith) (omega arith)

  pub size_most : {v : ℕ} → number_in (get_or last.rows 1 None) ≡ Some v → v ≤ 2 ^ 16 - 1
  unfolding row_at keys base_of limit_of
  size_most e = most 1 (omega arith) (omega arith) e

  pub domain_said : decimal_of p (bytes "domain") (2 ^ 32 - 1) ≡ number_in (get_or last.rows 2 None)
  unfolding row_at keys base_of
  domain_said = said 2 (omega arith) (omega arith)

  pub domain_most : {v : ℕ} → number_in (get_or last.rows 2 None) ≡ Some v → v ≤ 2 ^ 32 - 1
  unfolding row_at keys base_of limit_of
  domain_most e = most 2 (omega arith) (omega arith) e

  pub route_said : hex_at p (bytes "route") (2 ^ 64 - 1) ≡ number_in (get_or last.rows 3 None)
  unfolding row_at keys base_of
  route_said = said 3 (omega arith) (omega arith)

  pub offset_said : hex_at p (bytes "offset") (2 ^ 16 - 1) ≡ number_in (get_or last.rows 5 None)
  unfolding row_at keys base_of
  offset_said = said 5 (omega arith) (omega arith)

  pub offset_most : {v : ℕ} → number_in (get_or last.rows 5 None) ≡ Some v → v ≤ 2 ^ 16 - 1
  unfolding row_at keys base_of limit_of
  offset_most e = most 5 (omega arith) (omega arith) e

  pub error_said : hex_at p (bytes "error") (2 ^ 8 - 1) ≡ number_in (get_or last.rows 6 None)
  unfolding row_at keys base_of
  error_said = said 6 (omega arith) (omega arith)

  pub error_most : {v : ℕ} → number_in (get_or last.rows 6 None) ≡ Some v → v ≤ 2 ^ 8 - 1
  unfolding row_at keys base_of limit_of
  error_most e = most 6 (omega arith) (omega arith) e

  pub len_said : decimal_of p (bytes "len") (2 ^ 16 - 1) ≡ number_in (get_or last.rows 7 None)
  unfolding row_at keys base_of
  len_said = said 7 (omega arith) (omega arith)

  pub len_most : {v : ℕ} → number_in (get_or last.rows 7 None) ≡ Some v → v ≤ 2 ^ 16 - 1
  unfolding row_at keys base_of limit_of
  len_most e = most 7 (omega arith) (omega arith) e

  pub port_said : decimal_of p (bytes "port") (2 ^ 8 - 1) ≡ number_in (get_or last.rows 8 None)
  unfolding row_at keys base_of
  port_said = said 8 (omega arith) (omega arith)

  pub port_most : {v : ℕ} → number_in (get_or last.rows 8 None) ≡ Some v → v ≤ 2 ^ 8 - 1
  unfolding row_at keys base_of limit_of
  port_most e = most 8 (omega arith) (omega arith) e

  pub config_said : hex_at p (bytes "config") (2 ^ 8 - 1) ≡ number_in (get_or last.rows 9 None)
  unfolding row_at keys base_of
  config_said = said 9 (omega arith) (omega arith)

  pub config_most : {v : ℕ} → number_in (get_or last.rows 9 None) ≡ Some v → v ≤ 2 ^ 8 - 1
  unfolding row_at keys base_of limit_of
  config_most e = most 9 (omega arith) (omega arith) e

  pub seq_said : decimal_of p (bytes "seq") (2 ^ 8 - 1) ≡ number_in (get_or last.rows 10 None)
  unfolding row_at keys base_of
  seq_said = said 10 (omega arith) (omega arith)

  pub seq_most : {v : ℕ} → number_in (get_or last.rows 10 None) ≡ Some v → v ≤ 2 ^ 8 - 1
  unfolding row_at keys base_of limit_of
  seq_most e = most 10 (omega arith) (omega arith) e

  pub unplug_said : hex_at p (bytes "unplug") (2 ^ 8 - 1) ≡ number_in (get_or last.rows 11 None)
  unfolding row_at keys base_of
  unplug_said = said 11 (omega arith) (omega arith)

  pub unplug_most : {v : ℕ} → number_in (get_or last.rows 11 None) ≡ Some v → v ≤ 2 ^ 8 - 1
  unfolding row_at keys base_of limit_of
  unplug_most e = most 11 (omega arith) (omega arith) e

  pub dropped_said : decimal_of p (bytes "dropped") (2 ^ 8 - 1) ≡ number_in (get_or last.rows 12 None)
  unfolding row_at keys base_of
  dropped_said = said 12 (omega arith) (omega arith)
