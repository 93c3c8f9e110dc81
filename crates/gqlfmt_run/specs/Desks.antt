-- What a run has before it, in the words of the definitions.
use Rattle.byte_streams.specs.Devices.{Account}
use Rattle.named_files.specs.Handling as handling
use Rattle.named_files.specs.Handling.{State}
use Rattle.gqlfmt_run.specs.declared.desk.Desk.{Desk}

-- the files, and what went through standard output and standard error, as the traits of these tell it
abbrev pub desk_of : {F W E : Type 0} → (W → Account) → (E → Account) → Desk F W E → handling.Desk F
desk_of output complaints desk =
    record { files = desk.files; output = output desk.output; complaints = complaints desk.complaints }

-- that, and what came from standard input
abbrev pub state_of : {R F W E : Type 0} → (R → Account) → (W → Account) → (E → Account) → R → Desk F W E → State F
state_of input output complaints reader desk = record {
  input = input reader;
  output = output desk.output;
  complaints = complaints desk.complaints;
  files = desk.files;
}
