-- The version of the library, 0.5.0, as one number (house format): major * 65536 + minor * 256 + patch.
use Rattle.std.specs.Prelude.{ℕ, ◌+◌, ◌*◌}

abbrev pub version : ℕ
version = 0 * 65536 + 5 * 256 + 0
