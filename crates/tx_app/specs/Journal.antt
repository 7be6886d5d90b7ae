-- The journal: an entry for each refresh.
use Rattle.std.specs.Prelude.{List, [], ◌∷◌, flat_map, if◌then◌else◌}
use Rattle.tx_io.specs.Sending.{failed_puts}
use Rattle.tx_app.specs.Course.{Act, Unmade, Undefined, Updates, Closes, Writes}
use Rattle.tx_app.specs.declared.journal.Entry.{Entry}
use Rattle.tx_app.specs.declared.journal.Entry.TheVariants.{Refresh}
use Rattle.tx_app.specs.declared.journal.Refreshed.TheVariants.{Accepted, Fraction, SinkFault, NoMemory}

abbrev pub act_entries : Act → List Entry
act_entries Unmade = Refresh NoMemory 0 0 ∷ []
act_entries (Undefined node axis) = Refresh (Fraction node axis) 0 0 ∷ []
act_entries (Updates update sent) = Refresh (if sent.failed then SinkFault else Accepted) sent.taken (failed_puts sent) ∷ []
act_entries (Closes sent) = []
act_entries (Writes lines sent) = []

abbrev pub entries_of : List Act → List Entry
entries_of acts = flat_map act_entries acts
