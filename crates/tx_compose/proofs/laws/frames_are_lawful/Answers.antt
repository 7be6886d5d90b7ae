use Rattle.tx_compose.proofs.FrameLaws.{frames_are_lawful}
use Rattle.tx_compose.proofs.laws.frames_are_lawful.Goals as goal

pub returns : goal.returns
returns c =
    frames_are_lawful (record { that = c.topmost_is_that.ensures; of_cells = c.owners_are_of_cells.ensures; each = c.each_cell_is_owned.ensures }) c.screen_fills.ensures
    c.nodes_have_one_entry.ensures
