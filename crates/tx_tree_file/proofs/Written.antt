-- A row that is written is as its types say.
use Rattle.std.proofs.Common.{◌≡◌, ◌&&◌, Bool, true, false}
use Rattle.std.specs.List.{list_all}
use Rattle.std.specs.Str.{is_utf8}
use Rattle.tx_text.specs.Name.{is_name}
use Rattle.tx_tree.specs.declared.row.Row.{Row}
use Rattle.tx_tree_file.specs.TreeFile.{is_typed, line_is_typed, bind_is_typed, kind_is_typed, id_is_typed}

-- a row is as its types say where its line is, and its bindings are
pub whole_typed : (row : Row) → line_is_typed row ≡ true → list_all bind_is_typed row.binds ≡ true → is_typed row ≡ true
whole_typed row h e =
    by (kind_is_typed row.kind) (id_is_typed row.id) (list_all is_name row.classes.names) (is_utf8 row.text) (is_utf8 row.inline) h
  where
    by : (a b c d f : Bool) → (a && (b && (c && (d && f)))) ≡ true → (a && (b && (c && (d && (f && list_all bind_is_typed row.binds))))) ≡ true
    by true true true true true g = e
    by true true true true false g = g
    by true true true false f g = g
    by true true false d f g = g
    by true false c d f g = g
    by false b c d f g = g
