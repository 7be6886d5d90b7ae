-- Words and a file that are accepted by what they are in the grammar.
use Rattle.std.proofs.Common.{◌≡◌, ◌<◌, ◌^◌, ℕ, true, nat_lt, List, [], ◌∷◌, length, Option, None, Some, Ok, ap, sym, ◌∙◌, arith, subst, codes, option_map, option_and_then, if◌then◌else◌}
use Rattle.std.proofs.lemmas.Bool.Decides.{nat_tests}
use Rattle.std.specs.Prelude.{IsOk}
use Rattle.tx_compose.specs.Presented.{composed}
use Rattle.tx_map.specs.OrdinarySheets.{OrdinarySheets}
use Rattle.tx_parse.proofs.lemmas.TextLaws.{text_sheet}
use Rattle.tx_parse.specs.Default.{sheet_value}
use Rattle.tx_parse.specs.Texts.{sheet_of}
use Rattle.tx_select.specs.Laws.{WholesAreRead}
use Rattle.tx_select.specs.SelectorReading.{whole_at}
use Rattle.tx_select.specs.SelectorValue.{SelectorValue}
use Rattle.tx_select.specs.Texts.{IsSelectorText, tokens_of, judged, selector_of}
use Rattle.tx_tree_file.specs.Laws.{FilesAreRead}
use Rattle.tx_app.specs.Faults.{IsHeld, Accepts, HoldsBoth, OrdinaryPicturesAreAccepted, PicturesAreAccepted, TreesAreAccepted}
use Rattle.tx_app.specs.Loads.{file_limit}
use Rattle.tx_app.specs.Plans.{plan_of, rows_plan, shown_plan, tree_plan}
use Rattle.tx_app.specs.Trees.{rows_of}
use Rattle.tx_app.specs.FirstShown.{first_shown}
use Rattle.tx_app.proofs.ShownLemmas.{ordinary}
use Rattle.tx_app.proofs.TreeLemmas.{rows_of-taken}
use Rattle.tx_app.specs.Words.{Queries, asked, given, queries, value_of}

-- a text in the grammar is read as its selector
text_selector : WholesAreRead → (text : List ℕ) (selector : SelectorValue) → IsSelectorText text selector → selector_of text ≡ Ok selector
unfolding selector_of
text_selector wholes text selector is =
    ap (λ fault. judged text fault (whole_at (tokens_of text))) is.sound ∙ ap (judged text None) ((wholes (tokens_of text) selector.compounds).1 is.grammar)

asked_query : (program : List ℕ) (rest : List (List ℕ)) (name text : List ℕ) (selector : SelectorValue) → given [] rest ≡ Some (record { options = []; others = name ∷ text ∷ [] })
    → length text < 2 ^ 32 → selector_of text ≡ Ok selector
    → asked (program ∷ codes "query" ∷ rest) ≡ Some (Queries name selector)
asked_query program rest name text selector gives short is =
    let few : nat_lt (length text) (2 ^ 32) ≡ true = grind (arith, nat_tests) in
    ap (option_and_then (λ found. queries found.others)) gives
    ∙ ap (λ b. option_map (Queries name) (if b then value_of (selector_of text) else None)) few
    ∙ ap (λ read. option_map (Queries name) (value_of read)) is

pub trees_are_accepted : WholesAreRead → FilesAreRead → TreesAreAccepted
trees_are_accepted wholes files words told h =
    let asks : asked words ≡ Some (Queries h.name h.selector) =
    ap asked h.asks ∙ asked_query h.program h.rest h.name h.text h.selector h.gives h.text_short (text_selector wholes h.text h.selector h.selects) in
    subst (λ task. Accepts told (plan_of task)) (sym asks)
    (subst (λ content. IsHeld content file_limit (λ bytes. Accepts told (rows_plan h.name h.selector (rows_of bytes)))) (sym h.bytes_told)
    (h.bytes_short, subst (λ read. Accepts told (rows_plan h.name h.selector read)) (sym (rows_of-taken h.bytes h.tree.rows ((files h.bytes h.tree).1 h.sound h.spells) h.built_in h.inline)) tt))

-- ---- a picture

both_accepted : FilesAreRead → (words : List (List ℕ)) (told : List ℕ → Option (List ℕ)) (h : HoldsBoth words told)
    → IsOk (composed (first_shown h.tree.rows (sheet_value h.found) h.show.size)) → Accepts told (plan_of (asked words))
both_accepted files words told h defined =
    let rows : rows_of h.tree_bytes ≡ Ok h.tree.rows = rows_of-taken h.tree_bytes h.tree.rows ((files h.tree_bytes h.tree).1 h.sound h.spells) h.built_in h.inline in
    let sheet : sheet_of h.sheet_bytes ≡ Ok h.found = text_sheet h.sheet_bytes h.found h.grammar in
    subst (λ task. Accepts told (plan_of task)) (sym h.asks)
    (subst (λ content. IsHeld content file_limit (λ bytes. Accepts told (tree_plan h.show.size h.show.tree h.show.sheet (rows_of bytes)))) (sym h.tree_told) (
      h.tree_short,
      subst (λ read. Accepts told (tree_plan h.show.size h.show.tree h.show.sheet read)) (sym rows)
          (subst (λ content. IsHeld content file_limit (λ bytes. Accepts told (shown_plan h.show.size h.show.sheet h.tree.rows bytes (sheet_of bytes)))) (sym h.sheet_told)
          (h.sheet_short, subst (λ read. Accepts told (shown_plan h.show.size h.show.sheet h.tree.rows h.sheet_bytes read)) (sym sheet) defined)),
    ))

pub pictures_are_accepted : FilesAreRead → PicturesAreAccepted
pictures_are_accepted files words told h defined = both_accepted files words told h defined

pub ordinary_pictures_are_accepted : FilesAreRead → OrdinarySheets → OrdinaryPicturesAreAccepted
ordinary_pictures_are_accepted files sheets words told h limits sheet texts tree =
    both_accepted files words told h (ordinary sheets (first_shown h.tree.rows (sheet_value h.found) h.show.size) limits sheet texts tree)
