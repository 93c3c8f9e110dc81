-- Bytes that are passed to a writer which may have failed before.
use Rattle.std.specs.Prelude.{◌≡◌, ℕ, Bool, true, false, List}
use Rattle.byte_streams.specs.Devices.{Account, moved}
use Rattle.byte_streams.specs.Writing.{IsBroken}

-- The writer was left alone if it had failed; or it took all of the bytes, or it fails now.
abbrev pub IsPassed : Bool → List ℕ → Account → Bool → Account → Type 0
IsPassed true bytes old is_broken new = (is_broken ≡ true) × (new ≡ old)
IsPassed false bytes old true new = IsBroken bytes old new
IsPassed false bytes old false new = new ≡ moved old bytes
