-- What the tool says of each refusal of the calls below it. Assumes nothing.
use Rattle.volume.specs.declared.whole.Unlisted.{Unlisted}
use Rattle.volume.specs.declared.whole.Unlisted.TheVariants as unlisted
use Rattle.volume_files.specs.declared.grow.Unadded.{Unadded}
use Rattle.volume_files.specs.declared.grow.Unadded.TheVariants as unadded
use Rattle.volume_files.specs.declared.trouble.What.{What}
use Rattle.volume_files.specs.declared.trouble.What.TheVariants.{NoVolume, Refused, Memory}

abbrev pub unlisted_as : Unlisted → What
unlisted_as (unlisted.Damaged damage) = NoVolume damage
unlisted_as unlisted.Memory = Memory

abbrev pub unadded_as : Unadded → What
unadded_as (unadded.Damaged damage) = NoVolume damage
unadded_as (unadded.Refused refusal) = Refused refusal
unadded_as unadded.Memory = Memory
