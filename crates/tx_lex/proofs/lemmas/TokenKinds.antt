-- What a test of a kind tells.
use Rattle.std.proofs.Common.{◌≡◌, ℕ, true, false, refl, ap}
use Rattle.std.proofs.lemmas.Bool.{eqb-true}
use Rattle.tx_lex.specs.Lexemes.{is_name_token, is_hash, is_variable, is_mark}
use Rattle.tx_lex.specs.declared.token.TokenKind.{TokenKind}
use Rattle.tx_lex.specs.declared.token.TokenKind.TheVariants.{Space, Comment, Name, Hash, Variable, Number, Mark}

pub mark-kind : (byte : ℕ) (kind : TokenKind) → is_mark byte kind ≡ true → kind ≡ Mark byte
mark-kind byte (Mark mark) is = ap Mark (eqb-true mark byte is)
mark-kind byte Space is = absurd (let clash : false ≡ true = is in cc)
mark-kind byte Comment is = absurd (let clash : false ≡ true = is in cc)
mark-kind byte Name is = absurd (let clash : false ≡ true = is in cc)
mark-kind byte Hash is = absurd (let clash : false ≡ true = is in cc)
mark-kind byte Variable is = absurd (let clash : false ≡ true = is in cc)
mark-kind byte Number is = absurd (let clash : false ≡ true = is in cc)

pub name-kind : (kind : TokenKind) → is_name_token kind ≡ true → kind ≡ Name
name-kind Name is = refl
name-kind (Mark mark) is = absurd (let clash : false ≡ true = is in cc)
name-kind Space is = absurd (let clash : false ≡ true = is in cc)
name-kind Comment is = absurd (let clash : false ≡ true = is in cc)
name-kind Hash is = absurd (let clash : false ≡ true = is in cc)
name-kind Variable is = absurd (let clash : false ≡ true = is in cc)
name-kind Number is = absurd (let clash : false ≡ true = is in cc)

pub hash-kind : (kind : TokenKind) → is_hash kind ≡ true → kind ≡ Hash
hash-kind Hash is = refl
hash-kind (Mark mark) is = absurd (let clash : false ≡ true = is in cc)
hash-kind Space is = absurd (let clash : false ≡ true = is in cc)
hash-kind Comment is = absurd (let clash : false ≡ true = is in cc)
hash-kind Name is = absurd (let clash : false ≡ true = is in cc)
hash-kind Variable is = absurd (let clash : false ≡ true = is in cc)
hash-kind Number is = absurd (let clash : false ≡ true = is in cc)

pub variable-kind : (kind : TokenKind) → is_variable kind ≡ true → kind ≡ Variable
variable-kind Variable is = refl
variable-kind (Mark mark) is = absurd (let clash : false ≡ true = is in cc)
variable-kind Space is = absurd (let clash : false ≡ true = is in cc)
variable-kind Comment is = absurd (let clash : false ≡ true = is in cc)
variable-kind Name is = absurd (let clash : false ≡ true = is in cc)
variable-kind Hash is = absurd (let clash : false ≡ true = is in cc)
variable-kind Number is = absurd (let clash : false ≡ true = is in cc)
