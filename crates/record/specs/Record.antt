-- A record of bytes: its kind, its body and its length, by place.
use Rattle.std.specs.Prelude.{ℕ, List, drop, Option, Some, None}
use Rattle.theory.specs.Bytes.{NextRecord, none_left, cut_short, next_is, next_record}
use Rattle.record.specs.declared.Record.{Record}

-- what the code keeps of the theory's next record: all but the bytes behind it
abbrev pub record_of : NextRecord → Option Record
record_of none_left = None
record_of cut_short = None
record_of (next_is k b c n bs) = Some (record { kind = k; body = b; second = c; len = n })

-- the record that starts at the place p
unfoldable pub record_at : List ℕ → ℕ → Option Record
record_at ws p = record_of (next_record (drop p ws))
