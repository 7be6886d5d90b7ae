-- Tokens one behind another: the steps of the loop, and what is read.
use Rattle.std.proofs.Common.{◌≡◌, ◌⊎◌, inl, inr, ℕ, ◌-◌, ◌<◌, ◌≤◌, true, false, not, List, [], ◌∷◌, ◌++◌, length, take, drop, Option, None, Some, Result, Ok, Err, refl, ap, sym, ◌∙◌, subst, arith, length-drop}
use Rattle.std.proofs.lemmas.List.{append-nil}
use Rattle.tx_read.specs.Reading.{behind_items, Shrinks, Items, StopsAt, IsFound}
use Rattle.tx_read.proofs.lemmas.ManyItems.{many-item, many-end, many-fault, many-found, many-again}
use Rattle.tx_lex.specs.Tokens.{is_none, is_token, IsLongestToken}
use Rattle.tx_lex.specs.Lexing.{Spot, spot_at, start_of, spot_behind, token_of, fault_of, fault_at, wrong_in, longest_token, sound_token, judged, token_at, is_more, left, tokens_from, fault_at_end, of_run, lexed}
use Rattle.tx_lex.specs.IsLexed.{IsTokenAt, IsWrongToken, IsNoToken, EndsWith, IsLexed, LexedIsExact}
use Rattle.tx_lex.specs.declared.token.Token.{Token}
use Rattle.tx_lex.specs.declared.token.TokenKind.{TokenKind}
use Rattle.tx_lex.specs.declared.token.Fault.{Fault}
use Rattle.tx_lex.specs.declared.token.Wrong.{Wrong}
use Rattle.tx_lex.specs.declared.token.Scanned.{Scanned}
use Rattle.tx_lex.proofs.OneKind.{one_kind}
use Rattle.tx_lex.proofs.LongestTokens.{Judges, longest-some_bytes, longest_token-judged}

-- ---- a token and what is behind it

sound-found : (spot : Spot) (kind : TokenKind) (n : ℕ) (wrong : Option Wrong) (token : Token) (behind : Spot) → IsLongestToken spot.rest kind n → wrong_in kind (take n spot.rest) ≡ wrong
    → sound_token spot kind n wrong ≡ Ok (token, behind) → IsTokenAt spot token behind
sound-found spot kind n None token behind longest fine is =
    let pair : (token_of spot kind n, spot_behind spot n) ≡ (token, behind) = cc in
    let kinds : token_of spot kind n ≡ token = ap (λ (p : Token × Spot). p.0) pair in
    let behinds : spot_behind spot n ≡ behind = ap (λ (p : Token × Spot). p.1) pair in
    let same : kind ≡ token.kind = ap (λ (t : Token). t.kind) kinds in
    record {
      n = n;
      longest = subst (λ k. IsLongestToken spot.rest k n) same longest;
      fine = subst (λ k. wrong_in k (take n spot.rest) ≡ None) same fine;
      places = sym kinds ∙ ap (λ k. token_of spot k n) same;
      rest = sym behinds;
    }
sound-found spot kind n (Some wrong) token behind longest fine is = absurd (let clash : Err (fault_of spot kind n wrong) ≡ Ok (token, behind) = is in cc)

judged-found : (spot : Spot) (found : Option (TokenKind × ℕ)) (token : Token) (behind : Spot) → Judges spot.rest found → judged spot found ≡ Ok (token, behind) → IsTokenAt spot token behind
judged-found spot None token behind judges is = absurd (let clash : Err (fault_at spot) ≡ Ok (token, behind) = is in cc)
judged-found spot (Some found) token behind judges is =
    sound-found spot found.0 found.1 (wrong_in found.0 (take found.1 spot.rest)) token behind judges refl is

token_at-found : (spot behind : Spot) (token : Token) → token_at spot ≡ Ok (token, behind) → IsTokenAt spot token behind
unfolding token_at
token_at-found spot behind token is = judged-found spot (longest_token spot.rest) token behind (longest_token-judged spot.rest) is

-- a token at fault, or none
judged-fault : (spot : Spot) (found : Option (TokenKind × ℕ)) (fault : Fault) → (spot.rest ≡ [] → ⊥) → Judges spot.rest found → judged spot found ≡ Err fault → IsNoToken spot fault ⊎ IsWrongToken spot fault
judged-fault spot None fault some judges is =
    let same : fault_at spot ≡ fault = cc in
    inl (record { some = some; none = judges; place = sym same })
judged-fault spot (Some found) fault some judges is = of (wrong_in found.0 (take found.1 spot.rest)) refl is
  where
    of : (wrong : Option Wrong) → wrong_in found.0 (take found.1 spot.rest) ≡ wrong → sound_token spot found.0 found.1 wrong ≡ Err fault → IsNoToken spot fault ⊎ IsWrongToken spot fault
    of None fine is = absurd (let clash : Ok (token_of spot found.0 found.1, spot_behind spot found.1) ≡ Err fault = is in cc)
    of (Some wrong) at is =
        let same : fault_of spot found.0 found.1 wrong ≡ fault = cc in
        inr (record { kind = found.0; n = found.1; wrong = wrong; longest = judges; is_wrong = at; place = sym same })

token_at-fault : (spot : Spot) (fault : Fault) → (spot.rest ≡ [] → ⊥) → token_at spot ≡ Err fault → IsNoToken spot fault ⊎ IsWrongToken spot fault
unfolding token_at
token_at-fault spot fault some is = judged-fault spot (longest_token spot.rest) fault some (longest_token-judged spot.rest) is

-- ---- tokens shrink what is left

token-some : (spot behind : Spot) (token : Token) (at : IsTokenAt spot token behind) → 0 < at.n
token-some spot behind token at = longest-some_bytes token.kind spot.rest at.n at.longest.longest

shrinks-smaller : (spot behind : Spot) (token : Token) → IsTokenAt spot token behind → left behind < left spot
shrinks-smaller spot behind token at =
    let shorter : left behind ≡ length spot.rest - at.n = ap left at.rest ∙ length-drop at.n spot.rest in
    omega (arith, shorter, token-some spot behind token at, at.longest.longest.within)

none_left : (rest : List ℕ) → length rest ≡ 0 → not (is_none rest) ≡ false
none_left [] is = refl
none_left (b ∷ rest) is = absurd (omega (arith, is))

pub tokens-shrink : Shrinks left is_more token_at
tokens-shrink = record {
  ends = λ spot none. none_left spot.rest none;
  smaller = λ spot behind token is. shrinks-smaller spot behind token (token_at-found spot behind token is);
}

-- ---- the loop

abbrev pub scanned : List Token → Option Fault → Scanned
scanned tokens fault = record { tokens = tokens; fault = fault }

more_at : (bytes : List ℕ) (place : ℕ) → place < length bytes → is_more (spot_at bytes place) ≡ true
more_at bytes place within = of (drop place bytes) (omega (arith, length-drop place bytes))
  where
    of : (rest : List ℕ) → 0 < length rest → not (is_none rest) ≡ true
    of [] some = absurd (omega (arith, some))
    of (b ∷ rest) some = refl

no_more_at : (bytes : List ℕ) (place : ℕ) → length bytes ≤ place → is_more (spot_at bytes place) ≡ false
no_more_at bytes place above = none_left (drop place bytes) (omega (arith, length-drop place bytes, above))

pub scan-token : (bytes : List ℕ) (place : ℕ) (tokens : List Token) (token : Token) → place < length bytes → token_at (spot_at bytes place) ≡ Ok (token, spot_at bytes token.to)
    → of_run (behind_items tokens (tokens_from (spot_at bytes place))) ≡ lexed bytes → of_run (behind_items (tokens ++ (token ∷ [])) (tokens_from (spot_at bytes token.to))) ≡ lexed bytes
scan-token bytes place tokens token within is so_far =
    ap of_run (sym (many-item left is_more token_at tokens-shrink tokens (spot_at bytes place) (spot_at bytes token.to) token (more_at bytes place within) is)) ∙ so_far

pub scan-fault : (bytes : List ℕ) (place : ℕ) (tokens : List Token) (fault : Fault) → place < length bytes → token_at (spot_at bytes place) ≡ Err fault
    → of_run (behind_items tokens (tokens_from (spot_at bytes place))) ≡ lexed bytes → record { tokens = tokens; fault = Some fault } ≡ lexed bytes
scan-fault bytes place tokens fault within is so_far =
    ap (λ items. record { tokens = items; fault = Some fault }) (sym (append-nil tokens))
    ∙ ap (λ run. of_run (behind_items tokens run)) (sym (many-fault left is_more token_at tokens-shrink (spot_at bytes place) fault (more_at bytes place within) is)) ∙ so_far

pub scan-end : (bytes : List ℕ) (place : ℕ) (tokens : List Token) → length bytes ≤ place
    → of_run (behind_items tokens (tokens_from (spot_at bytes place))) ≡ lexed bytes → record { tokens = tokens; fault = None } ≡ lexed bytes
scan-end bytes place tokens above so_far =
    ap (λ items. record { tokens = items; fault = None }) (sym (append-nil tokens))
    ∙ ap (λ run. of_run (behind_items tokens run)) (sym (many-end left is_more token_at tokens-shrink (spot_at bytes place) (no_more_at bytes place above))) ∙ so_far

-- ---- what is read, said by the table

started : (bytes : List ℕ) → IsFound IsTokenAt is_more token_at (start_of bytes) (tokens_from (start_of bytes))
started bytes = many-found IsTokenAt left is_more token_at tokens-shrink (λ spot behind token more is. token_at-found spot behind token is) (start_of bytes)

some_left : (rest : List ℕ) → not (is_none rest) ≡ true → rest ≡ [] → ⊥
some_left [] more none = let clash : false ≡ true = more in cc
some_left (b ∷ rest) more none = let clash : true ≡ false = ap (λ xs. not (is_none xs)) none in cc

nothing_left : (rest : List ℕ) → not (is_none rest) ≡ false → rest ≡ []
nothing_left [] more = refl
nothing_left (b ∷ rest) more = absurd (let clash : true ≡ false = more in cc)

ends-with : (last : Spot) (end : Result Spot Fault) → StopsAt is_more token_at last end → EndsWith last (fault_at_end end)
ends-with last (Ok spot) stops = nothing_left last.rest stops.1
ends-with last (Err fault) stops = token_at-fault last fault (some_left last.rest stops.0) stops.1

is-lexed : (bytes : List ℕ) → IsLexed bytes (lexed bytes)
is-lexed bytes =
    let found : IsFound IsTokenAt is_more token_at (start_of bytes) (tokens_from (start_of bytes)) = started bytes in
    record { last = found.last; tokens = found.items; ends = ends-with found.last (tokens_from (start_of bytes)).end found.stops }

-- ---- nothing else is

same-length : (bytes : List ℕ) (kind other : TokenKind) (n m : ℕ) → IsLongestToken bytes kind n → IsLongestToken bytes other m → n < m → ⊥
same-length bytes kind other n m one two less =
    let clash : false ≡ true = sym (one.of_all other m less two.longest.within) ∙ two.longest.passes in cc

found-is : (bytes : List ℕ) (kind : TokenKind) (n : ℕ) (found : Option (TokenKind × ℕ)) → IsLongestToken bytes kind n → Judges bytes found → found ≡ Some (kind, n)
found-is bytes kind n None longest judges = absurd (let clash : false ≡ true = sym (judges kind n longest.longest.within) ∙ longest.longest.passes in cc)
found-is bytes kind n (Some found) longest judges =
    let not_less : n < found.1 → ⊥ = same-length bytes kind found.0 n found.1 longest judges in
    let not_more : found.1 < n → ⊥ = same-length bytes found.0 kind found.1 n judges longest in
    let same : found.1 ≡ n = between found.1 n not_more not_less in
    let kinds : found.0 ≡ kind = one_kind found.0 kind (take n bytes) (subst (λ k. is_token found.0 (take k bytes) ≡ true) same judges.longest.passes) longest.longest.passes in
    ap (λ k. Some (found.0, k)) same ∙ ap (λ k. Some (k, n)) kinds
  where
    between : (a b : ℕ) → (a < b → ⊥) → (b < a → ⊥) → a ≡ b
    between a b less more = omega (arith, less, more)

token_at-is : (spot behind : Spot) (token : Token) → IsTokenAt spot token behind → token_at spot ≡ Ok (token, behind)
unfolding token_at
token_at-is spot behind token at =
    ap (judged spot) (found-is spot.rest token.kind at.n (longest_token spot.rest) at.longest (longest_token-judged spot.rest))
    ∙ ap (sound_token spot token.kind at.n) at.fine
    ∙ ap (λ t. Ok (t, spot_behind spot at.n)) (sym at.places)
    ∙ ap (λ b. Ok (token, b)) (sym at.rest)

more_before : (spot behind : Spot) (token : Token) → IsTokenAt spot token behind → is_more spot ≡ true
more_before spot behind token at = of spot.rest (omega (arith, token-some spot behind token at, at.longest.longest.within))
  where
    of : (rest : List ℕ) → 0 < length rest → not (is_none rest) ≡ true
    of [] some = absurd (omega (arith, some))
    of (b ∷ rest) some = refl

read-items : (spot last : Spot) (tokens : List Token) → Items IsTokenAt spot tokens last → Items (λ s a next. (is_more s ≡ true) × (token_at s ≡ Ok (a, next))) spot tokens last
read-items spot last [] is = is
read-items spot last (token ∷ tokens) is = (is.0, ((more_before spot is.0 token is.1.0, token_at-is spot is.0 token is.1.0), read-items is.0 last tokens is.1.1))

no-token-at : (spot : Spot) (fault : Fault) → IsNoToken spot fault → token_at spot ≡ Err fault
unfolding token_at
no-token-at spot fault none = of (longest_token spot.rest) (longest_token-judged spot.rest)
  where
    of : (found : Option (TokenKind × ℕ)) → Judges spot.rest found → judged spot found ≡ Err fault
    of None judges = ap Err (sym none.place)
    of (Some found) judges = absurd (let clash : false ≡ true = sym (none.none found.0 found.1 judges.longest.within) ∙ judges.longest.passes in cc)

wrong-token-at : (spot : Spot) (fault : Fault) → IsWrongToken spot fault → token_at spot ≡ Err fault
unfolding token_at
wrong-token-at spot fault at =
    ap (judged spot) (found-is spot.rest at.kind at.n (longest_token spot.rest) at.longest (longest_token-judged spot.rest))
    ∙ ap (sound_token spot at.kind at.n) at.is_wrong ∙ ap Err (sym at.place)

wrong-more : (spot : Spot) (fault : Fault) → IsWrongToken spot fault → is_more spot ≡ true
wrong-more spot fault at = of spot.rest (omega (arith, longest-some_bytes at.kind spot.rest at.n at.longest.longest, at.longest.longest.within))
  where
    of : (rest : List ℕ) → 0 < length rest → not (is_none rest) ≡ true
    of [] some = absurd (omega (arith, some))
    of (b ∷ rest) some = refl

no-token-more : (rest : List ℕ) → (rest ≡ [] → ⊥) → not (is_none rest) ≡ true
no-token-more [] some = absurd (some refl)
no-token-more (b ∷ rest) some = refl

-- how the run ends that has this last place and this fault
end_of : Spot → Option Fault → Result Spot Fault
end_of spot None = Ok spot
end_of spot (Some fault) = Err fault

stops-at : (last : Spot) (fault : Option Fault) → EndsWith last fault → StopsAt is_more token_at last (end_of last fault)
unfolding end_of
stops-at last None is = (refl, ap (λ rest. not (is_none rest)) is)
stops-at last (Some fault) (inl none) = (no-token-more last.rest none.some, no-token-at last fault none)
stops-at last (Some fault) (inr wrong) = (wrong-more last fault wrong, wrong-token-at last fault wrong)

end-fault : (last : Spot) (fault : Option Fault) → fault ≡ fault_at_end (end_of last fault)
unfolding end_of
end-fault last None = refl
end-fault last (Some fault) = refl

only-lexed : (bytes : List ℕ) (other : Scanned) → IsLexed bytes other → other ≡ lexed bytes
only-lexed bytes other is =
    let run : tokens_from (start_of bytes) ≡ record { items = other.tokens; end = end_of is.last other.fault } =
    many-again left is_more token_at tokens-shrink (start_of bytes) is.last other.tokens (end_of is.last other.fault)
    (read-items (start_of bytes) is.last other.tokens is.tokens) (stops-at is.last other.fault is.ends) in
    ap (scanned other.tokens) (end-fault is.last other.fault) ∙ ap of_run (sym run)

pub lexed-exact : LexedIsExact
lexed-exact bytes = (is-lexed bytes, only-lexed bytes)
