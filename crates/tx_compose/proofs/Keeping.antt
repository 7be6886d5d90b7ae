-- What is kept of a picture is that of the picture.
use Rattle.std.proofs.Common.{◌≡◌, ℕ, Bool, List, Option, Ok, ◌∙◌, refl, sym, ap, subst}
use Rattle.tx_compose.specs.Kept.{AreOwned, IsKept}
use Rattle.tx_compose.specs.Presented.{Presented, map_of, styles_of}
use Rattle.tx_compose.specs.Seen.{AreSeen}
use Rattle.tx_compose.proofs.Mapping.{has_entries}
use Rattle.tx_compose.proofs.Owning.{HasEntries, KnowsOwners, are_owned, is_frame}
use Rattle.tx_map.specs.Laws.{NodesHaveOneEntry, ScreenFills}
use Rattle.tx_map.specs.declared.entry.Entry.{Entry}
use Rattle.tx_owner.specs.Owner.{is_seen, spot}
use Rattle.tx_owner.specs.Owners.{OwnersValue}
use Rattle.tx_picture.specs.Given.{AreOwners}
use Rattle.tx_tree.specs.TreeValue.{TreeValue}
use Rattle.tx_tree.specs.WellFormed.{IsTree}

pub is_kept : KnowsOwners → ScreenFills → NodesHaveOneEntry → (shown : Presented) (tree : TreeValue) → shown.rows ≡ tree.rows → IsTree tree → (entries : List Entry)
    → map_of shown ≡ Ok entries → (kept : OwnersValue) → AreOwners (styles_of shown) entries shown.size kept → (seen : ℕ → Option Bool) → AreSeen (is_seen (styles_of shown)) entries seen
    → IsKept shown entries kept seen
is_kept know fills one shown tree same is entries mapped kept those seen visible =
    let has = has_entries fills one shown tree same is entries mapped in
    record {
      map = mapped;
      owned = subst (AreOwned shown entries) (sym those.lines) (are_owned know shown entries has);
      spots = λ n. those.spots n ∙ ap (λ lines. spot entries lines n) those.lines;
      visible = visible;
      frame = is_frame know shown entries has;
    }
