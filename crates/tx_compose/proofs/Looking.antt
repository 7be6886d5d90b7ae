-- What is visible, looked up by the node.
use Rattle.std.proofs.Common.{◌≡◌, ℕ, suc, ◌+◌, ◌<◌, ◌≤◌, Bool, true, false, cond, List, [], ◌∷◌, length, drop, get_or, Option, Some, None, ◌∙◌, refl, sym, ap, drop-cons, arith}
use Rattle.std.proofs.Math.ListN.{drop_of_length-le}
use Rattle.std.specs.Prelude.{◌==◌, option_map}
use Rattle.tx_compose.specs.Seen.{AreSeen}
use Rattle.tx_map.specs.Lookup.{entry_of, is_of}
use Rattle.tx_map.specs.declared.entry.Entry.{Entry}
use Rattle.tx_node_map.specs.Held.{nothing, with_at}

pub seen_none : (is_seen : Entry → Bool) (seen : ℕ → Option Bool) (entries : List Entry) (at : ℕ) → seen ≡ nothing → length entries ≤ at → AreSeen is_seen (drop at entries) seen
seen_none is_seen seen entries at none h = λ n. ap (λ (p : ℕ → Option Bool). p n) none ∙ ap (λ (l : List Entry). option_map is_seen (entry_of n l)) (sym (drop_of_length-le entries h))

seen_by : (is_seen : Entry → Bool) (entry : Entry) (here : Option Bool) (rest : Option Entry) → here ≡ option_map is_seen rest → (b : Bool)
    → cond b (Some (is_seen entry)) here ≡ option_map is_seen (cond b (Some entry) rest)
seen_by is_seen entry here rest is true = refl
seen_by is_seen entry here rest is false = is

-- with one entry more in front
pub seen_next : (is_seen : Entry → Bool) (old new : ℕ → Option Bool) (entries : List Entry) (i at : ℕ) (entry : Entry) → at ≡ i + 1 → i < length entries → entry ≡ get_or entries i entry
    → new ≡ with_at old entry.node.0 (Some (is_seen entry)) → AreSeen is_seen (drop at entries) old → AreSeen is_seen (drop i entries) new
seen_next is_seen old new entries i at entry step h here set seen = λ n.
    let next : suc i ≡ at = omega (arith, step) in
    let front : drop i entries ≡ entry ∷ drop at entries = drop-cons entries i entry h ∙ ap (λ (e : Entry). e ∷ drop (suc i) entries) (sym here) ∙ ap (λ k. entry ∷ drop k entries) next in
    ap (λ (p : ℕ → Option Bool). p n) set
    ∙ seen_by is_seen entry (old n) (entry_of n (drop at entries)) (seen n) (n == entry.node.0)
    ∙ ap (λ (l : List Entry). option_map is_seen (entry_of n l)) (sym front)
