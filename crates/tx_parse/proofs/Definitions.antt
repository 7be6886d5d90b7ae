-- Variables, and what they stand for, over the text that they are read of.
use Rattle.std.proofs.Common.{◌≡◌, ℕ, ◌+◌, Bool, true, false, cond, List, [], ◌∷◌, take, drop, map, Some, option_map, bytes_eq, refl, ap}
use Rattle.indexmap.specs.IndexMap.{insert_entry}
use Rattle.tx_lex.specs.Lexemes.{lexeme, lexemes}
use Rattle.tx_lex.specs.declared.token.Token.{Token}
use Rattle.tx_parse.specs.Seen.{defined_in, definition_in}
use Rattle.tx_parse.specs.Variables.{latest}

abbrev pub Entries : Type 0
Entries = List (List ℕ × List Token)

pub latest_in : (text name : List ℕ) (entries : Entries) → latest name (defined_in text entries) ≡ option_map (lexemes text) (latest name entries)
unfolding defined_in
latest_in text name [] = refl
latest_in text name (entry ∷ entries) = of (bytes_eq name entry.0) (latest_in text name entries)
  where
    of : (same : Bool) → latest name (map (definition_in text) entries) ≡ option_map (lexemes text) (latest name entries)
        → cond same (Some (lexemes text entry.1)) (latest name (map (definition_in text) entries)) ≡ option_map (lexemes text) (cond same (Some entry.1) (latest name entries))
    of true more = refl
    of false more = more

pub insert_in : (text name : List ℕ) (tokens : List Token) (entries : Entries)
    → defined_in text (insert_entry bytes_eq entries name tokens) ≡ insert_entry bytes_eq (defined_in text entries) name (lexemes text tokens)
unfolding defined_in
insert_in text name tokens [] = refl
insert_in text name tokens (entry ∷ entries) = of (bytes_eq name entry.0) (insert_in text name tokens entries)
  where
    of : (same : Bool) → map (definition_in text) (insert_entry bytes_eq entries name tokens) ≡ insert_entry bytes_eq (map (definition_in text) entries) name (lexemes text tokens)
        → map (definition_in text) (cond same ((entry.0, tokens) ∷ entries) (entry ∷ insert_entry bytes_eq entries name tokens))
        ≡ cond same ((entry.0, lexemes text tokens) ∷ map (definition_in text) entries) (definition_in text entry ∷ insert_entry bytes_eq (map (definition_in text) entries) name (lexemes text tokens))
    of true more = refl
    of false more = ap (λ es. definition_in text entry ∷ es) more

-- a token stands alone
pub alone_in : (text : List ℕ) (tokens : List Token) (at : ℕ) (token : Token) → drop at tokens ≡ token ∷ drop (at + 1) tokens → lexemes text (take 1 (drop at tokens)) ≡ lexeme text token ∷ []
alone_in text tokens at token is = ap (λ ts. lexemes text (take 1 ts)) is
