-- The number of each refusal, as document 01 gives it.
use Rattle.std.specs.Prelude.{ℕ}
use Rattle.refusal.specs.declared.Refusal.{Refusal}
use Rattle.refusal.specs.declared.Refusal.TheVariants as R

abbrev pub number_of : Refusal → ℕ
number_of R.Idle = 1
number_of R.LongLine = 2
number_of R.NotAscii = 3
number_of R.NoColon = 4
number_of R.NoTask = 5
number_of R.NoPid = 6
number_of R.NoCpu = 7
number_of R.NoTimestamp = 8
number_of R.NoFunction = 9
number_of R.NoType = 11
number_of R.NoSize = 12
number_of R.NoDomain = 13
number_of R.NoRoute = 14
number_of R.NoData = 15
number_of R.ManyDwords = 16
number_of R.FewSlots = 17
number_of R.BadPiece = 18
number_of R.BadBook = 20
number_of R.NoKind = 21
number_of R.NoTable = 22
number_of R.NoHeaderTable = 23
number_of R.LongPacket = 24
number_of R.ShortPacket = 25
number_of R.FewPlaces = 26
number_of R.NoPacketRoute = 27
number_of R.UnnamedType = 28
number_of R.NoRecord = 30
number_of R.Overrun = 31
number_of R.BadTag = 32
number_of R.MissingTag = 33
number_of R.BadBody = 34
number_of R.FewRecordSlots = 35
number_of R.ShortBuffer = 36
number_of R.BadEntry = 37
number_of R.TableSize = 50
number_of R.BrokenTable = 51
number_of R.NoStream = 53
number_of R.CutRecord = 54
number_of R.LongRecord = 55
