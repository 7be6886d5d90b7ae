-- A name is ASCII, so it is text.
use Rattle.std.proofs.Common.{rules, Ok, Err, Result}
use Rattle.std.specs.Str.{IsUtf8}
use Rattle.std.specs.Result.{IsOk, MatchResult}
use Rattle.std.proofs.lemmas.Str.{IsUtf8-from_ascii}
use Rattle.tx_text.proofs.lemmas.NameBytes.{IsAscii-name}
use Rattle.tx_text.proofs.name.Name.as_str.Goals as goal

-- what is refused only where P fails isn't refused where P holds
taken : {T E : Type 0} (P : Type 0) (Q : T → Type 0) (R : E → Type 0) (r : Result T E)
    → MatchResult r Q (λ e. ¬ P × R e) → P → IsOk r
taken P Q R (Ok x) h p = search rules
taken P Q R (Err e) h p = absurd (h.0 p)

pub unwrap-requires : goal.unwrap-requires
unwrap-requires c =
    let utf8 : IsUtf8 c.as_bytes.result.now = rw c.as_bytes.ensures.bytes (IsUtf8-from_ascii _ (IsAscii-name _ c.as_bytes.ensures.name)) in
    taken _ _ _ c.from_utf8.result c.from_utf8.ensures.cases utf8
