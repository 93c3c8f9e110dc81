-- How reading ends before the end.
use Rattle.std.specs.Prelude.{◌≡◌}
use Rattle.byte_streams.specs.Devices.{Account, failed}
use Rattle.byte_streams.specs.declared.fault.Fault.{Fault}
use Rattle.byte_streams.specs.declared.fault.Fault.TheVariants.{Read, Utf8, Memory, Write}

-- the reader failed, or memory was refused after a read
abbrev pub EndsReading : Fault → Account → Account → Type 0
EndsReading Read old new = new ≡ failed old
EndsReading Memory old new = new ≡ old
EndsReading Utf8 old new = ⊥
EndsReading Write old new = ⊥
