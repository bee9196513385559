-- The next frame of a source.
use Rattle.std.specs.Prelude.{◌≡◌, ◌≢◌, ◌≤◌, ◌<◌, ◌⊎◌, ℕ, List, [], ◌++◌, length}
use Rattle.plfs_types.specs.Counts.{HasRisen}
use Rattle.plfs_types.specs.declared.bytes.TheConstants.{MAX_BLOCK}
use Rattle.edge_io.specs.Source.{Given, HandsOver}
use Rattle.frame_format.specs.declared.head.Head.{Head}
use Rattle.frame_format.specs.declared.head.TheConstants.{HEAD_SIZE}
use Rattle.frame_format.specs.Heads.{head_bytes}
use Rattle.frame_streams.specs.declared.arriving.Arrival.{Arrival}
use Rattle.frame_streams.specs.declared.arriving.Arrival.TheVariants.{Frame, End, Cut, Long, Failed}
use Rattle.edge_io.specs.Source.{IsAtEnd}

-- The bytes are a front of a frame and not all of it: they end within its head, or within what follows.
pub data IsFront (bytes : List ℕ) : Type 0 where
  in_head : length bytes < HEAD_SIZE → IsFront bytes
  in_payload : (head : Head) (payload : List ℕ) → bytes ≡ head_bytes head ++ payload → length payload < head.len → head.len ≤ MAX_BLOCK → IsFront bytes

-- of these bytes this came
abbrev pub IsOf : Arrival → List ℕ → Type 0
IsOf (Frame head payload) bytes = (bytes ≡ head_bytes head ++ payload) × (length payload ≡ head.len) × (head.len ≤ MAX_BLOCK)
IsOf End bytes = bytes ≡ []
IsOf Cut bytes = IsFront bytes × (bytes ≢ [])
IsOf (Long head) bytes = (bytes ≡ head_bytes head) × (MAX_BLOCK < head.len)
IsOf Failed bytes = IsFront bytes

-- how the source is then: it has no further byte, or its count of faults rose
abbrev pub Ends : Arrival → Given → Given → Type 0
Ends End old new = IsAtEnd new.left × (new.faults ≡ old.faults)
Ends Cut old new = IsAtEnd new.left × (new.faults ≡ old.faults)
Ends Failed old new = HasRisen old.faults new.faults
Ends other old new = new.faults ≡ old.faults

-- the source handed just the bytes over of which this came
pub record Arrives (arrival : Arrival) (old new : Given) : Type 0 where
  pub bytes : List ℕ
  pub are : IsOf arrival bytes
  pub handed : HandsOver bytes old.left new.left
  pub ends : Ends arrival old new

-- no byte was handed over, or a frame's head alone, and no read failed
pub record Begins (old new : Given) : Type 0 where
  pub bytes : List ℕ
  pub are : (bytes ≡ []) ⊎ ((head : Head) × (bytes ≡ head_bytes head) × (head.len ≤ MAX_BLOCK))
  pub handed : HandsOver bytes old.left new.left
  pub unfailed : new.faults ≡ old.faults

-- ---- behind a head

abbrev pub IsBehind : Head → Arrival → List ℕ → Type 0
IsBehind head (Frame whole payload) rest = (whole ≡ head) × (payload ≡ rest) × (length rest ≡ head.len) × (head.len ≤ MAX_BLOCK)
IsBehind head End rest = ⊥
IsBehind head Cut rest = (length rest < head.len) × (head.len ≤ MAX_BLOCK)
IsBehind head (Long whole) rest = (whole ≡ head) × (rest ≡ []) × (MAX_BLOCK < head.len)
IsBehind head Failed rest = (length rest < head.len) × (head.len ≤ MAX_BLOCK)

pub record ArrivesBehind (head : Head) (arrival : Arrival) (old new : Given) : Type 0 where
  pub rest : List ℕ
  pub are : IsBehind head arrival rest
  pub handed : HandsOver rest old.left new.left
  pub ends : Ends arrival old new

-- memory was refused for what follows, and none of it was read
abbrev pub HasNoRoom : Head → Given → Given → Type 0
HasNoRoom head old new = (head.len ≤ MAX_BLOCK) × (new ≡ old)

-- ---- of bytes that aren't told

-- it may come of some bytes: a frame has just the bytes that its head says, and of a long one the head says too many
abbrev pub MayArrive : Arrival → Type 0
MayArrive arrival =
    ((head : Head) (payload : List ℕ) → arrival ≡ Frame head payload → (length payload ≡ head.len) × (head.len ≤ MAX_BLOCK))
    × ((head : Head) → arrival ≡ Long head → MAX_BLOCK < head.len)

-- these are the counts of faults before it and behind it
abbrev pub CountsFault : Arrival → ℕ → ℕ → Type 0
CountsFault Failed before after = HasRisen before after
CountsFault other before after = after ≡ before
