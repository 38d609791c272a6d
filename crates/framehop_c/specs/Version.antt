-- The version of the archive, 0.16.0, as one number: 10000 * major + 100 * minor + patch.
use Rattle.std.specs.Prelude.{ℕ}

abbrev pub version_number : ℕ
version_number = 1600
