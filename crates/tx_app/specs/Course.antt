-- What a run does to `out`, act by act, and which bytes and failures come of that.
use Rattle.std.specs.Prelude.{⊤, ◌≡◌, ◌<◌, ℕ, ◌+◌, true, false, List, [], ◌∷◌, length, take, flat_map, Ok, Err}
use Rattle.tx_io.specs.declared.send.Sent.{Sent}
use Rattle.tx_io.specs.Sending.{failed_puts}
use Rattle.tx_cell.specs.Grid.{GridValue, IsGrid}
use Rattle.tx_compose.specs.Presented.{Presented, IsScreen, composed}
use Rattle.tx_geom.specs.declared.choices.Axis.{Axis}
use Rattle.tx_term.specs.Update.{update, closing}
use Rattle.tx_tree.specs.declared.row.NodeId.{NodeId}
use Rattle.tx_tree.specs.declared.row.Row.{Row}
use Rattle.tx_select.specs.SelectorValue.{SelectorValue}
use Rattle.tx_app.specs.Listing.{ListsMatches}
use Rattle.tx_app.specs.FirstShown.{at_first}
use Rattle.tx_app.specs.Openings.{Opening, Stops, Opens, Prints, Finds}

pub data Act : Type 0 where
  -- a refresh for which memory ran out, before its first byte
  Unmade : Act
  -- a refresh whose picture is undefined: the first container whose arrangement is, and along which axis
  Undefined : NodeId → Axis → Act
  -- a refresh: the bytes of its update, and what the sink took of them
  Updates : List ℕ → Sent → Act
  -- the closing bytes, and what the sink took of them
  Closes : Sent → Act
  -- printed lines, and what the sink took of them
  Writes : List ℕ → Sent → Act

-- the bytes on `out`: of each piece as many as the sink took
abbrev pub act_bytes : Act → List ℕ
act_bytes Unmade = []
act_bytes (Undefined node axis) = []
act_bytes (Updates update sent) = take sent.taken update
act_bytes (Closes sent) = take sent.taken closing
act_bytes (Writes lines sent) = take sent.taken lines

abbrev pub bytes_of : List Act → List ℕ
bytes_of acts = flat_map act_bytes acts

-- how many puts failed
abbrev pub act_faults : Act → ℕ
act_faults Unmade = 0
act_faults (Undefined node axis) = 0
act_faults (Updates update sent) = failed_puts sent
act_faults (Closes sent) = failed_puts sent
act_faults (Writes lines sent) = failed_puts sent

abbrev pub faults_of : List Act → ℕ
faults_of [] = 0
faults_of (act ∷ acts) = act_faults act + faults_of acts

-- these bytes can have been sent so: all of them where no put failed, and fewer where one did
pub record CanBeSent (bytes : List ℕ) (sent : Sent) : Type 0 where
  pub all : sent.failed ≡ false → sent.taken ≡ length bytes
  pub part : sent.failed ≡ true → sent.taken < length bytes

-- The bytes of the whole update that shows the picture, on a screen that showed nothing before. The size is within the limits, and both
-- grids are well formed.
pub record IsUpdate (shown : Presented) (bytes : List ℕ) : Type 0 where
  pub picture : GridValue
  pub is : composed shown ≡ Ok picture
  pub bytes_are : bytes ≡ update (at_first shown.size) picture true
  pub limits : IsScreen shown.size
  pub blank : IsGrid (at_first shown.size)
  pub formed : IsGrid picture

-- the update of the picture was sent; or the picture is undefined; or memory ran out
abbrev pub IsRefresh : Presented → Act → Type 0
IsRefresh shown Unmade = ⊤
IsRefresh shown (Undefined node axis) = composed shown ≡ Err (node, axis)
IsRefresh shown (Updates bytes sent) = IsUpdate shown bytes × CanBeSent bytes sent
IsRefresh shown (Closes sent) = ⊥
IsRefresh shown (Writes lines sent) = ⊥

-- one refresh, on a fresh screen, and then the closing bytes
pub record IsShown (shown : Presented) (acts : List Act) : Type 0 where
  pub refresh : Act
  pub closed : Sent
  pub is : acts ≡ refresh ∷ Closes closed ∷ []
  pub refreshes : IsRefresh shown refresh
  pub closes : CanBeSent closing closed

-- lines that are printed
pub record IsPrinted (lines : List ℕ) (acts : List Act) : Type 0 where
  pub sent : Sent
  pub is : acts ≡ Writes lines sent ∷ []
  pub writes : CanBeSent lines sent

-- a line for each row that the selector matches
pub record IsListed (rows : List Row) (selector : SelectorValue) (acts : List Act) : Type 0 where
  pub lines : List ℕ
  pub lists : ListsMatches rows selector lines
  pub printed : IsPrinted lines acts

-- what is done; nothing is sent where the reading stops the run
abbrev pub IsCourse : Opening → List Act → Type 0
IsCourse (Stops cause) acts = acts ≡ []
IsCourse (Opens shown) acts = IsShown shown acts
IsCourse (Prints lines) acts = IsPrinted lines acts
IsCourse (Finds rows selector) acts = IsListed rows selector acts
