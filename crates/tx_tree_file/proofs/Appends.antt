-- Parts written one behind another.
use Rattle.std.proofs.Common.{◌≡◌, ℕ, ◌+◌, ◌*◌, List, [], ◌∷◌, ◌++◌, replicate, ap, ◌∙◌, append_assoc, arith}
use Rattle.std.proofs.lemmas.List.{replicate-append-replicate}

pub nine_parts : (o a b c d e f g h i : List ℕ) → o ++ a ++ b ++ c ++ d ++ e ++ f ++ g ++ h ++ i ≡ o ++ (a ++ ((b ++ (c ++ (d ++ (e ++ (f ++ (g ++ h)))))) ++ i))
nine_parts o a b c d e f g h i = simp append_assoc

pub bind_parts : (o a b c d e f g : List ℕ) → o ++ a ++ b ++ c ++ d ++ e ++ f ++ g ≡ o ++ (a ++ ((b ++ (c ++ (d ++ (e ++ f)))) ++ g))
bind_parts o a b c d e f g = simp append_assoc

-- one depth more is two blanks more
pub deeper_by_one : (o : List ℕ) (n : ℕ) → o ++ replicate (2 * n) 32 ++ (32 ∷ 32 ∷ []) ≡ o ++ replicate (2 * (n + 1)) 32
deeper_by_one o n =
    let more : 2 * n + 2 ≡ 2 * (n + 1) = omega arith in
    append_assoc o (replicate (2 * n) 32) (32 ∷ 32 ∷ []) ∙ ap (λ blanks. o ++ blanks) (replicate-append-replicate (2 * n) 2 32 ∙ ap (λ k. replicate k 32) more)
