-- Rows of a tree that are taken.
use Rattle.std.proofs.Common.{◌≡◌, ◌^◌, ℕ, Bool, true, false, nat_lt, List, [], ◌∷◌, length, None, Ok, refl, ap, ◌∙◌, arith}
use Rattle.std.proofs.lemmas.Bool.Decides.{nat_tests}
use Rattle.std.proofs.lemmas.List.Elements.{All-head, All-tail}
use Rattle.std.specs.Prelude.{All}
use Rattle.tx_opening.specs.OpeningFaults.{IsInline}
use Rattle.tx_opening.specs.OpeningReading.{first_line, is_refused, is_unknown, is_unread, judged, judged_rows, line_below, or_line, rows_of as rows_read}
use Rattle.tx_opening.specs.declared.fault.RowsRefusal.TheVariants.{Inline, NoCustom}
use Rattle.tx_parse.proofs.lemmas.TextLaws.{text_inline}
use Rattle.tx_picture.specs.Given.{AreBuiltIn}
use Rattle.tx_tree.specs.Kind.{is_handed}
use Rattle.tx_tree.specs.declared.row.Row.{Row}
use Rattle.tx_tree_file.specs.TreeReading.{tree_of}
use Rattle.tx_app.specs.Trees.{rows_of, taken}

-- none of these rows is so
none_so : (P : Row → Type 0) (is : Row → Bool) → ((row : Row) → P row → is row ≡ false) → (rows : List Row) (line : ℕ) → All P rows → first_line is line rows ≡ None
none_so P is isnt [] line all = refl
none_so P is isnt (row ∷ rows) line all =
    rw (isnt row (All-head P row rows all)) (none_so P is isnt rows (line_below line row) (All-tail P row rows all))

inline-read : (row : Row) → IsInline row → is_unread row ≡ false
inline-read row i =
    let few : nat_lt (length row.inline) (2 ^ 32) ≡ true = (let short = i.short in grind (arith, nat_tests)) in
    rw few (ap is_refused (text_inline row.inline i.body i.grammar))

judged-taken : (rows : List Row) → AreBuiltIn rows → All IsInline rows → judged [] rows ≡ Ok rows
unfolding judged
judged-taken rows built inline =
    ap (λ line. or_line NoCustom line (or_line Inline (first_line is_unread 1 rows) (Ok rows))) (none_so (λ (r : Row). is_handed r.kind ≡ false) (is_unknown []) (λ row is. is) rows 1 built)
    ∙ ap (λ line. or_line Inline line (Ok rows)) (none_so IsInline is_unread inline-read rows 1 inline)

read-taken : (bytes : List ℕ) (rows : List Row) → tree_of bytes ≡ Ok rows → AreBuiltIn rows → All IsInline rows → rows_read [] bytes ≡ Ok rows
unfolding rows_read
read-taken bytes rows read built inline = ap (judged_rows []) read ∙ judged-taken rows built inline

pub rows_of-taken : (bytes : List ℕ) (rows : List Row) → tree_of bytes ≡ Ok rows → AreBuiltIn rows → All IsInline rows → rows_of bytes ≡ Ok rows
unfolding rows_of
rows_of-taken bytes rows read built inline = ap taken (read-taken bytes rows read built inline)
