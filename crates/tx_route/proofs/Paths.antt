-- Priority bindings on a path, read upwards.
use Rattle.std.proofs.Common.{◌≡◌, ℕ, List, [], ◌∷◌, ◌++◌, Option, Some, None, reverse, refl, sym, ap, ◌∙◌}
use Rattle.std.specs.Option.{option_or, option_map_or}
use Rattle.std.proofs.lemmas.List.{reverse-append}
use Rattle.tx_tree.specs.Rows.{row_at, ancestors_of}
use Rattle.tx_tree.specs.declared.bind.Action.{Action}
use Rattle.tx_tree.specs.declared.bind.Key.{Key}
use Rattle.tx_tree.specs.declared.row.NodeId.{NodeId}
use Rattle.tx_tree.specs.declared.row.Row.{Row}
use Rattle.tx_route.specs.Pressing.{own_priority, path_to, priority_on}

pub or-assoc : {T : Type 0} (a b c : Option T) → option_or (option_or a b) c ≡ option_or a (option_or b c)
or-assoc None b c = refl
or-assoc (Some x) b c = refl

pub or-none : {T : Type 0} (a : Option T) → option_or a None ≡ a
or-none None = refl
or-none (Some x) = refl

-- the first on a path that ends in a row, or else another
pub priority-end : (key : Key) (path : List Row) (row : Row) (other : Option (NodeId × Action))
    → option_or (priority_on key (path ++ (row ∷ []))) other ≡ option_or (priority_on key path) (option_or (own_priority key row) other)
unfolding priority_on
priority-end key [] row other = ap (λ o. option_or o other) (or-none (own_priority key row))
priority-end key (first ∷ path) row other =
    or-assoc (own_priority key first) (priority_on key (path ++ (row ∷ []))) other
    ∙ (ap (option_or (own_priority key first)) (priority-end key path row other)
    ∙ sym (or-assoc (own_priority key first) (priority_on key path) (option_or (own_priority key row) other)))

-- of rows that are read upwards the first is the last on the path
pub priority-up : (key : Key) (row : Row) (rows : List Row) (other : Option (NodeId × Action))
    → option_or (priority_on key (reverse (row ∷ rows))) other ≡ option_or (priority_on key (reverse rows)) (option_or (own_priority key row) other)
priority-up key row rows other =
    ap (λ path. option_or (priority_on key path) other) (reverse-append (row ∷ []) rows) ∙ priority-end key (reverse rows) row other

-- before the row's ancestors are looked at
pub priority-begin : (key : Key) (n : ℕ) (rows : List Row) (row : Row) → row_at n rows ≡ Some row
    → option_or (priority_on key (reverse (ancestors_of n rows))) (option_or (own_priority key row) None) ≡ priority_on key (path_to n rows)
unfolding path_to
priority-begin key n rows row there =
    sym (priority-up key row (ancestors_of n rows) None)
    ∙ (or-none (priority_on key (reverse (row ∷ ancestors_of n rows)))
    ∙ sym (ap (λ (o : Option Row). priority_on key (option_map_or (λ r. reverse (r ∷ ancestors_of n rows)) o [])) there))
