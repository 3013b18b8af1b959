-- Farm files that are not taken.
use Rattle.std.proofs.Common.{ℕ, ◌<◌, List, length, Option, Some, None, refl, inl}
use Rattle.std.specs.Prelude.{IfSome}
use Rattle.farm_files.specs.declared.fault.Table.TheVariants.{File}
use Rattle.farm_files.specs.declared.fault.Rule.TheVariants.{TooLong}
use Rattle.farm_files.specs.declared.reading.TheConstants.{LONGEST_FILE}
use Rattle.farm_cli.specs.FarmFile.{HasFault}

-- a file that is too long breaks a rule
pub HasFault-too_long : (left : Option (List ℕ)) → IfSome left (λ bytes. LONGEST_FILE < length bytes) → IfSome left HasFault
HasFault-too_long None long = tt
HasFault-too_long (Some bytes) long = (record { table = File; row = 0; rule = TooLong }, inl (refl, refl, long))
