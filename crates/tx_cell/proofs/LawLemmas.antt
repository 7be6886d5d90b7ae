-- The laws, as their definitions say them.
use Rattle.std.proofs.lemmas.Str.{IsUtf8-from_is_utf8}
use Rattle.tx_cell.proofs.AloneLemmas.{cell_of-graphemes}
use Rattle.tx_cell.proofs.StripLemmas.{FitColumns-line, IsOfItsText-cell_of}
use Rattle.tx_cell.specs.Laws.{CellsAreOfTheirText, ClustersStandAlone, LinesAreWellFormed}

pub cells_own : CellsAreOfTheirText
cells_own text pen cell channels utf8 made = IsOfItsText-cell_of text pen cell channels (IsUtf8-from_is_utf8 text utf8) made

pub clusters_alone : ClustersStandAlone
clusters_alone text pen utf8 = cell_of-graphemes text pen (IsUtf8-from_is_utf8 text utf8)

pub lines_formed : LinesAreWellFormed
lines_formed line pen channels utf8 = (FitColumns-line line pen channels (IsUtf8-from_is_utf8 line utf8)).formed
