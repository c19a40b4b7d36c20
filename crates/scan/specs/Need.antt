-- Going on with what is there, and one number where it is not.
use Rattle.std.specs.Prelude.{None, Option, Some}

-- with a value go on, else the answer is as given
abbrev pub need : {A B : Type 0} → B → Option A → (A → B) → B
need otherwise None f = otherwise
need otherwise (Some a) f = f a
