-- What a source and a sink in memory hold, and what a call does to it.
use Rattle.std.specs.Prelude.{◌≡◌, ℕ, ◌+◌, ◌-◌, ◌<◌, ◌≤◌, ◌⊎◌, List, [], ◌++◌, length, take, drop, min, Contains}
use Rattle.dg_io.specs.Causes.{raised}

-- a source: the bytes still to come, how many at most a call gives, the numbers of the calls that
-- fail, and the counts of calls and of faults
pub record SourceState : Type 0 where
  pub left : List ℕ
  pub piece : ℕ
  pub bad : List ℕ
  pub calls : ℕ
  pub faults : ℕ

-- a source that was not called yet
abbrev pub new_source : List ℕ → ℕ → List ℕ → SourceState
new_source bytes piece bad = record {
  left = bytes;
  piece = piece;
  bad = bad;
  calls = 0;
  faults = 0;
}

-- how many bytes a call gives for so many bytes of room
abbrev pub given_count : SourceState → ℕ → ℕ
given_count s room = min (min room s.piece) (length s.left)

-- the source after a call that gave n bytes
abbrev pub source_gave : SourceState → ℕ → SourceState
source_gave s n = record {
  left = drop n s.left;
  piece = s.piece;
  bad = s.bad;
  calls = raised
      s.calls;
  faults = s.faults;
}

-- the source after a call that failed
abbrev pub source_failed : SourceState → SourceState
source_failed s = record {
  left = s.left;
  piece = s.piece;
  bad = s.bad;
  calls = raised s.calls;
  faults = raised s.faults;
}

-- a call that gave n bytes: as many as it may, from the front of what was left, at the front of the
-- buffer, whose other bytes stay
pub record Gives (before after : SourceState) (old new : List ℕ) (n : ℕ) : Type 0 where
  pub count : n ≡ given_count before (length old)
  pub bytes : new ≡ take n before.left ++ drop n old
  pub state : after ≡ source_gave before n

-- a sink: the bytes taken, how many it takes in all, the numbers of the calls that fail, and the
-- counts of calls and of faults
pub record SinkState : Type 0 where
  pub written : List ℕ
  pub room : ℕ
  pub bad : List ℕ
  pub calls : ℕ
  pub faults : ℕ

-- a sink that was not called yet
abbrev pub new_sink : ℕ → List ℕ → SinkState
new_sink room bad = record { written = []; room = room; bad = bad; calls = 0; faults = 0 }

-- how many bytes of the piece a call takes
abbrev pub taken_count : SinkState → List ℕ → ℕ
taken_count s piece = min (length piece) (s.room - length s.written)

-- the call is one of those that fail, or it brings bytes and there is no room
abbrev pub RefusesPiece : SinkState → List ℕ → Type 0
RefusesPiece s piece = Contains s.bad (s.calls + 1) ⊎ ((0 < length piece)
    × (s.room ≤ length s.written))

-- the sink after a call that took n bytes of the piece
abbrev pub sink_took : SinkState → List ℕ → ℕ → SinkState
sink_took s piece n = record {
  written = s.written ++ take n piece;
  room = s.room;
  bad = s.bad;
  calls = raised s.calls;
  faults = s.faults;
}

-- the sink after a call that failed
abbrev pub sink_failed : SinkState → SinkState
sink_failed s = record {
  written = s.written;
  room = s.room;
  bad = s.bad;
  calls = raised s.calls;
  faults = raised s.faults;
}

-- a call that took n bytes of the piece: as many as there is room for
pub record Takes (before after : SinkState) (piece : List ℕ) (n : ℕ) : Type 0 where
  pub count : n ≡ taken_count before piece
  pub state : after ≡ sink_took before piece n
