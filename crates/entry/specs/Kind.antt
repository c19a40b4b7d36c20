-- The kinds: ours, not wire numbers.
use Rattle.std.specs.Prelude.{ℕ, ◌<◌, ◌≡◌, cond, List, Result, MatchResult}
use Rattle.text.specs.Quote.{bytes}
use Rattle.text.specs.Same.{same_text}
use Rattle.entry.specs.declared.kind.Kind.{Kind}
use Rattle.entry.specs.declared.kind.Kind.TheVariants as K
use Rattle.entry.specs.declared.kind.UnknownKind.{UnknownKind}

-- the number of each kind
abbrev pub number_of : Kind → ℕ
number_of K.Other = 0
number_of K.ReadRequest = 1
number_of K.ReadResponse = 2
number_of K.WriteRequest = 3
number_of K.WriteResponse = 4
number_of K.Error = 5
number_of K.NotifyAck = 6
number_of K.Event = 7
number_of K.XDomainRequest = 8
number_of K.XDomainResponse = 9
number_of K.IcmEvent = 10
number_of K.IcmCommand = 11
number_of K.IcmResponse = 12

-- an answer is the kind of this number, or says that no kind has it
abbrev pub Numbered : ℕ → Result Kind UnknownKind → Type 0
Numbered n r = MatchResult r (λ kind. number_of kind ≡ n) (λ e. (e.0 ≡ n) × (12 < n))

-- with function `tb_tx` the one, with `tb_rx` the other, else 0
unfoldable pub by_direction : List ℕ → ℕ → ℕ → ℕ
by_direction function sent received =
    cond (same_text function (bytes "tb_tx")) sent (cond (same_text function (bytes "tb_rx")) received 0)

-- the kinds that do not go by the function; all else 0
unfoldable pub other_kind : List ℕ → ℕ
other_kind name =
    cond (same_text name (bytes "TB_CFG_PKG_ERROR")) 5
    (cond (same_text name (bytes "TB_CFG_PKG_NOTIFY_ACK")) 6
    (cond (same_text name (bytes "TB_CFG_PKG_EVENT")) 7
    (cond (same_text name (bytes "TB_CFG_PKG_XDOMAIN_REQ")) 8
    (cond (same_text name (bytes "TB_CFG_PKG_XDOMAIN_RESP")) 9
    (cond (same_text name (bytes "TB_CFG_PKG_ICM_EVENT")) 10
    (cond (same_text name (bytes "TB_CFG_PKG_ICM_CMD")) 11
    (cond (same_text name (bytes "TB_CFG_PKG_ICM_RESP")) 12 0)))))))

-- the kind of a type's text and a function
unfoldable pub kind_of : List ℕ → List ℕ → ℕ
kind_of name function =
    cond (same_text name (bytes "TB_CFG_PKG_READ")) (by_direction function 1 2)
    (cond (same_text name (bytes "TB_CFG_PKG_WRITE")) (by_direction function 3 4) (other_kind name))
