-- Numbers 5 to 9: what a header says, in the order of the numbers.
use Rattle.std.specs.Prelude.{ℕ, List}
use Rattle.text.specs.Told.{Told, is, refused}
use Rattle.header.specs.declared.stamp.Stamp.{Stamp}
use Rattle.header.specs.Dash.{task_of, pid_of}
use Rattle.header.specs.Cpu.{cpu_of}
use Rattle.header.specs.Stamp.{stamp_of}
use Rattle.header.specs.Function.{function_of}
use Rattle.scan.specs.declared.head.Head.{Head}
use Rattle.scan.specs.Need.{need}

-- all five found
abbrev pub head_got : ℕ → ℕ → ℕ → Stamp → ℕ → Told Head
head_got task pid cpu stamp function =
    is (record { task = task; pid = pid; cpu = cpu; seconds = stamp.seconds; microseconds = stamp.microseconds; function = function })

-- from each number on
abbrev pub head9 : List ℕ → ℕ → ℕ → ℕ → Stamp → Told Head
head9 h task pid cpu stamp = need (refused 9) (function_of h) (head_got task pid cpu stamp)

abbrev pub head8 : List ℕ → ℕ → ℕ → ℕ → Told Head
head8 h task pid cpu = need (refused 8) (stamp_of h) (head9 h task pid cpu)

abbrev pub head7 : List ℕ → ℕ → ℕ → Told Head
head7 h task pid = need (refused 7) (cpu_of h) (head8 h task pid)

abbrev pub head6 : List ℕ → ℕ → Told Head
head6 h task = need (refused 6) (pid_of h) (head7 h task)

-- what a header says
unfoldable pub head_of : List ℕ → Told Head
head_of h = need (refused 5) (task_of h) (head6 h)
