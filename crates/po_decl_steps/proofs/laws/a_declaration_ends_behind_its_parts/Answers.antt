use Rattle.po_decl_steps.proofs.Declarations.{semicolon_whole, semicolon_one}
use Rattle.po_decl_steps.proofs.laws.a_declaration_ends_behind_its_parts.Goals as goal

pub returns : goal.returns
returns c = λ specs now typedef parts types signs left kind q. ((kind, semicolon_whole q), λ y rest p. semicolon_one q p.1)
