-- The numbers of a device's refusals (docs/REFUSALS.md). Assumes nothing.
--   device_number e      the number that a caller is told
use Rattle.std.specs.Prelude.{ℕ}
use Rattle.device.specs.declared.error.DeviceError.{DeviceError}
use Rattle.device.specs.declared.error.DeviceError.TheVariants.{BlockSize, Outside, NoSpare}

abbrev pub device_number : DeviceError → ℕ
device_number BlockSize = 1
device_number Outside = 10
device_number NoSpare = 29
