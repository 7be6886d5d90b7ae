-- How the rows of a tree are judged.
use Rattle.std.proofs.Common.{◌≡◌, ◌^◌, ℕ, Bool, true, false, cond, nat_lt, List, [], ◌∷◌, length, Some, None, Result, Ok, Err, refl, ap, ◌∙◌, arith, true≢false}
use Rattle.std.proofs.lemmas.Bool.Decides.{nat_tests}
use Rattle.std.proofs.lemmas.List.Elements.{All-cons, All-head, All-nil, All-tail}
use Rattle.std.specs.Prelude.{All}
use Rattle.tx_parse.proofs.lemmas.TextLaws.{inline_text, text_inline, text_sheet}
use Rattle.tx_parse.specs.Default.{sheet_value}
use Rattle.tx_parse.specs.Grammar.{Body, Found}
use Rattle.tx_parse.specs.Texts.{Report, inline_of, sheet_of}
use Rattle.tx_tree.specs.Kind.{is_handed}
use Rattle.tx_tree.specs.declared.row.Row.{Row}
use Rattle.tx_tree_file.specs.Laws.{FilesAreRead}
use Rattle.tx_tree_file.specs.TreeReading.{tree_of}
use Rattle.tx_opening.specs.OpeningFaults.{AreBuiltIn, IsInline, OpeningsAreRead}
use Rattle.tx_opening.specs.OpeningReading.{first_line, line_below, is_unknown, is_refused, is_unread, or_line, judged, judged_rows, rows_of, with_rows, with_sheet, opening_of}
use Rattle.tx_opening.specs.declared.fault.RowsRefusal.TheVariants.{Inline, NoCustom}

-- ---- no row is so

passed_by : (P : Row → Type 0) (is : Row → Bool) (row : Row) (rows : List Row) (line : ℕ) (b : Bool) → is row ≡ b → (is row ≡ false → P row)
    → cond b (Some line) (first_line is (line_below line row) rows) ≡ None → (first_line is (line_below line row) rows ≡ None → All P rows) → All P (row ∷ rows)
passed_by P is row rows line true same has none rest = absurd (let e : Some line ≡ None = none in cc)
passed_by P is row rows line false same has none rest = All-cons P row rows (has same) (rest none)

all_so : (P : Row → Type 0) (is : Row → Bool) → ((row : Row) → is row ≡ false → P row) → (rows : List Row) (line : ℕ) → first_line is line rows ≡ None → All P rows
all_so P is has [] line none = All-nil P
all_so P is has (row ∷ rows) line none = passed_by P is row rows line (is row) refl (has row) none (all_so P is has rows (line_below line row))

pub built_in : (rows : List Row) (line : ℕ) → first_line (is_unknown []) line rows ≡ None → AreBuiltIn rows
built_in rows line none = all_so (λ (r : Row). is_handed r.kind ≡ false) (is_unknown []) (λ row is. is) rows line none

inline-by : (row : Row) (few : Bool) (read : Result Body Report) → nat_lt (length row.inline) (2 ^ 32) ≡ few → inline_of row.inline ≡ read
    → cond few (is_refused read) true ≡ false → IsInline row
inline-by row true (Ok body) few read is =
    record { body = body; short = (let e = few in grind (arith, nat_tests)); grammar = inline_text row.inline body read }
inline-by row true (Err report) few read is = absurd (true≢false is)
inline-by row false read few same is = absurd (true≢false is)

pub inline : (rows : List Row) (line : ℕ) → first_line is_unread line rows ≡ None → All IsInline rows
inline rows line none =
    all_so IsInline is_unread (λ row is. inline-by row (nat_lt (length row.inline) (2 ^ 32)) (inline_of row.inline) refl refl is) rows line none

none_so : (P : Row → Type 0) (is : Row → Bool) → ((row : Row) → P row → is row ≡ false) → (rows : List Row) (line : ℕ) → All P rows → first_line is line rows ≡ None
none_so P is isnt [] line all = refl
none_so P is isnt (row ∷ rows) line all =
    rw (isnt row (All-head P row rows all)) (none_so P is isnt rows (line_below line row) (All-tail P row rows all))

-- ---- rows that are taken

inline-read : (row : Row) → IsInline row → is_unread row ≡ false
inline-read row i =
    let few : nat_lt (length row.inline) (2 ^ 32) ≡ true = (let short = i.short in grind (arith, nat_tests)) in
    rw few (ap is_refused (text_inline row.inline i.body i.grammar))

judged-taken : (rows : List Row) → AreBuiltIn rows → All IsInline rows → judged [] rows ≡ Ok rows
unfolding judged
judged-taken rows built inline =
    ap (λ line. or_line NoCustom line (or_line Inline (first_line is_unread 1 rows) (Ok rows))) (none_so (λ (r : Row). is_handed r.kind ≡ false) (is_unknown []) (λ row is. is) rows 1 built)
    ∙ ap (λ line. or_line Inline line (Ok rows)) (none_so IsInline is_unread inline-read rows 1 inline)

rows_of-taken : (bytes : List ℕ) (rows : List Row) → tree_of bytes ≡ Ok rows → AreBuiltIn rows → All IsInline rows → rows_of [] bytes ≡ Ok rows
unfolding rows_of
rows_of-taken bytes rows read built inline = ap (judged_rows []) read ∙ judged-taken rows built inline

-- ---- whole openings

opened : (tree sheet : List ℕ) (rows : List Row) (found : Found) → rows_of [] tree ≡ Ok rows → sheet_of sheet ≡ Ok found
    → opening_of [] tree sheet ≡ Ok (record { rows = rows; sheet = sheet_value found })
unfolding opening_of
opened tree sheet rows found rows_read sheet_read = ap (λ read. with_rows read sheet) rows_read ∙ ap (with_sheet rows sheet) sheet_read

pub openings-read : FilesAreRead → OpeningsAreRead
openings-read files tree sheet value found o =
    opened tree sheet value.rows found
    (rows_of-taken tree value.rows ((files tree value).1 o.sound o.spells) o.built_in o.inline)
    (text_sheet sheet found o.grammar)
