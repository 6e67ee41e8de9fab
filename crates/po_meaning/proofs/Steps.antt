-- A step that calls no library function leads from a state that belongs to a project to one that belongs to it.
use Rattle.po_base.specs.declared.operators.Op.{Op}
use Rattle.po_interval.specs.Gathering.{BinMembersCover, ResultsAreOfType}
use Rattle.po_ir.specs.declared.instr.Callee.TheVariants.{Fun, Extern as Undefined}
use Rattle.po_ir.specs.declared.instr.Instr.TheVariants.{Const, Copy, Bin, Un, Conv, AddrSlot, AddrGlobal, AddrStr, PtrAdd, PtrDiff, Load, Store, CopyBytes, Fill, Enter, Leave, Call, Lib, If, Jump, Return, Never}
use Rattle.po_ir.specs.declared.instr.Local.TheVariants as variable
use Rattle.po_memory.specs.Since.{StoresKeep, CopiesKeep, FillsKeep}
use Rattle.po_meaning.specs.Staying.{StepsStay}
use Rattle.po_meaning.proofs.Plain.{plain_steps_stay}
use Rattle.po_meaning.proofs.Accesses.{add_stays, load_stays, store_stays, copy_stays, fill_stays}
use Rattle.po_meaning.proofs.Slots.{enter_stays, leave_stays}
use Rattle.po_meaning.proofs.Calls.{call_stays}
use Rattle.po_meaning.proofs.Returns.{return_stays}

pub steps_stay : ResultsAreOfType → ((o : Op) → BinMembersCover o) → StoresKeep → CopiesKeep → FillsKeep → StepsStay
steps_stay of_type cover stores copies fills required library p r f (Const to value) s u whole stands held (step, below) before = plain_steps_stay of_type cover library p f (Const to value) s u whole stands tt step below before
steps_stay of_type cover stores copies fills required library p r f (Copy to from) s u whole stands held (step, below) before = plain_steps_stay of_type cover library p f (Copy to from) s u whole stands tt step below before
steps_stay of_type cover stores copies fills required library p r f (Bin to o ty a b) s u whole stands held (step, below) before = plain_steps_stay of_type cover library p f (Bin to o ty a b) s u whole stands tt step below before
steps_stay of_type cover stores copies fills required library p r f (Un to o t a) s u whole stands held (step, below) before = plain_steps_stay of_type cover library p f (Un to o t a) s u whole stands tt step below before
steps_stay of_type cover stores copies fills required library p r f (Conv to from ty align) s u whole stands held (step, below) before = plain_steps_stay of_type cover library p f (Conv to from ty align) s u whole stands tt step below before
steps_stay of_type cover stores copies fills required library p r f (AddrSlot to slot) s u whole stands held (step, below) before = plain_steps_stay of_type cover library p f (AddrSlot to slot) s u whole stands tt step below before
steps_stay of_type cover stores copies fills required library p r f (AddrGlobal to global) s u whole stands held (step, below) before = plain_steps_stay of_type cover library p f (AddrGlobal to global) s u whole stands tt step below before
steps_stay of_type cover stores copies fills required library p r f (AddrStr to text) s u whole stands held (step, below) before = plain_steps_stay of_type cover library p f (AddrStr to text) s u whole stands tt step below before
steps_stay of_type cover stores copies fills required library p r f (PtrDiff to a b size) s u whole stands held (step, below) before = plain_steps_stay of_type cover library p f (PtrDiff to a b size) s u whole stands tt step below before
steps_stay of_type cover stores copies fills required library p r f (If o ty a b one other) s u whole stands held (step, below) before = plain_steps_stay of_type cover library p f (If o ty a b one other) s u whole stands tt step below before
steps_stay of_type cover stores copies fills required library p r f (Jump next) s u whole stands held (step, below) before = plain_steps_stay of_type cover library p f (Jump next) s u whole stands tt step below before
steps_stay of_type cover stores copies fills required library p r f (Enter (variable.Reg n)) s u whole stands held (step, below) before = plain_steps_stay of_type cover library p f (Enter (variable.Reg n)) s u whole stands tt step below before
steps_stay of_type cover stores copies fills required library p r f (Enter (variable.Slot n)) s u whole stands held (step, below) before = enter_stays library p f s u whole before below n stands step
steps_stay of_type cover stores copies fills required library p r f (PtrAdd to base index factor) s u whole stands held (step, below) before = add_stays stores copies fills required library p r f s u whole held before below to base index factor stands step
steps_stay of_type cover stores copies fills required library p r f (Load to at access) s u whole stands held (step, below) before = load_stays stores copies fills required library p r f s u whole held before below to at access stands step
steps_stay of_type cover stores copies fills required library p r f (Store at value access) s u whole stands held (step, below) before = store_stays stores copies fills required library p r f s u whole held before below at value access stands step
steps_stay of_type cover stores copies fills required library p r f (CopyBytes to from size align) s u whole stands held (step, below) before = copy_stays stores copies fills required library p r f s u whole held before below to from size align stands step
steps_stay of_type cover stores copies fills required library p r f (Fill slot size) s u whole stands held (step, below) before = fill_stays stores copies fills required library p r f s u whole held before below slot size stands step
steps_stay of_type cover stores copies fills required library p r f (Leave slot) s u whole stands held (step, below) before = leave_stays library p f s u whole before below slot stands step
steps_stay of_type cover stores copies fills required library p r f (Call to (Fun n) args strings) s u whole stands held enters before = call_stays library p f s u whole before to n args strings stands enters
steps_stay of_type cover stores copies fills required library p r f (Call to (Undefined name) args strings) s u whole stands held none before = absurd none
steps_stay of_type cover stores copies fills required library p r f (Lib to lib args strings) s u whole stands held none before = absurd none
steps_stay of_type cover stores copies fills required library p r f (Return value) s u whole stands held returns before = return_stays library p f s u whole value stands returns before
steps_stay of_type cover stores copies fills required library p r f (Never reason) s u whole stands held none before = absurd none
