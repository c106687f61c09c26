-- The lines that the program says, spelled out.
use Rattle.std.specs.Prelude.{[], codes, refl, ◌≡◌}
use Rattle.run_io.specs.Inputs.{too_many}
use Rattle.strun.specs.Tops.{own_name}
use Rattle.top_status.specs.declared.status.Status.TheVariants.{NoMemory, Ok as StatusOk, ReadFault, Refused, Usage, WriteFault}
use Rattle.top_status.specs.Statuses.{line_of}

-- nothing where all was done
pub said_nothing : line_of own_name too_many StatusOk ≡ []
said_nothing = refl

-- the words are none of its lists
pub said_usage : line_of own_name too_many Usage ≡ codes "strun: usage\n"
said_usage = refl

-- there are too many bytes
pub said_long : line_of own_name too_many Refused ≡ codes "strun: more than 1048576 bytes\n"
said_long = refl

-- a read failed
pub said_read_fault : line_of own_name too_many ReadFault ≡ codes "strun: read fault\n"
said_read_fault = refl

-- a write failed
pub said_write_fault : line_of own_name too_many WriteFault ≡ codes "strun: write fault\n"
said_write_fault = refl

-- memory was wanting
pub said_no_memory : line_of own_name too_many NoMemory ≡ codes "strun: out of memory\n"
said_no_memory = refl
