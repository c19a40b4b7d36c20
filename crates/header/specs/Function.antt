-- The function.
use Rattle.std.specs.Prelude.{ℕ, ◌<◌, ◌≡◌, cond, ◌&&◌, List, ltb, eqb, length, take, drop, None, Option, Some}
use Rattle.text.specs.Class.{is_word, is_blank}
use Rattle.text.specs.Place.{byte_before}
use Rattle.text.specs.Run.{RunBack, run_start}

-- function: the word run that ends the header, before it blanks, before them `:`
pub record Function (h : List ℕ) (function : List ℕ) : Type 0 where
  pub word : ℕ
  pub last_run : RunBack is_word h word
  pub some_word : word < length h
  pub blank : ℕ
  pub blanks : RunBack is_blank (take word h) blank
  pub some_blank : blank < word
  pub colon : byte_before h blank ≡ 58
  pub is : function ≡ drop word h

-- where the function starts
unfoldable pub function_of : List ℕ → Option ℕ
function_of h =
    let word : ℕ = run_start is_word h in
    let blank : ℕ = run_start is_blank (take word h) in
    cond (ltb word (length h) && ltb blank word && eqb (byte_before h blank) 58) (Some word) None
