use Rattle.std.proofs.Common.{subst}
use Rattle.tx_box.specs.Laws.{Follow}
use Rattle.tx_layout.proofs.Following.{follow_tracks, if_both}
use Rattle.tx_layout.proofs.tracks.tracks_laid.Goals as goal

pub returns-clause-tracks : goal.returns-clause-tracks
returns-clause-tracks c =
    if_both _ _ _
    (λ v spans cells.
    follow_tracks c.args.gutter _ v.items c.requires.gutter cells
    (subst (λ gaps. Follow gaps v.items) c.requires.gaps
    (c.spans_follow.ensures c.args.items.now c.args.gaps.now c.args.axis c.args.basis c.args.own.now v.items
    (record { sized = c.requires.sized; fractions = c.requires.fractions; one_gap_more = c.requires.gap_count; one_base_each = c.requires.own }) spans)))
    c.near_spans.result c.near_spans.ensures.spans c.near_spans.ensures.cells
