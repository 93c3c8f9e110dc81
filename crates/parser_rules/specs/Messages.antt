-- What a report says, in the words of the original.
use Rattle.std.specs.Prelude.{ℕ, Bool, true, false, if◌then◌else◌, List, [], ◌++◌, codes}
use Rattle.parser_rules.specs.declared.message.Message.{Message}
use Rattle.parser_rules.specs.declared.message.Message.TheVariants as message

abbrev pub Text : Type 0
Text = List ℕ

-- what a report is about: a text, the end of the text, or a limit
pub data Found : Type 0 where
  at_text : Text → Found
  at_end : Found
  at_limit : Found

abbrev pub is_limit : Found → Bool
is_limit at_limit = true
is_limit _ = false

-- what is wrong
abbrev pub description : Message → Text
description message.UnexpectedEof = codes "Unexpected <EOF>."
description message.ExpectedDefinitionStart = codes "expected a StringValue, Name or OperationDefinition"
description message.ExpectedDefinition = codes "expected definition"
description message.ExpectedDefinitionAfterString = codes "expected a definition after this StringValue"
description message.ExpectedOperation = codes "expected an Operation Type or a Selection Set"
description message.ExpectedOperationType = codes "expected either a 'mutation', a 'query', or a 'subscription'"
description message.ExpectedSelectionSet = codes "expected a Selection Set"
description message.ExpectedInlineSelectionSet = codes "expected Selection Set"
description message.ExpectedSelection = codes "expected at least one Selection in Selection Set"
description message.ExpectedFragment = codes "expected an Inline Fragment or a Fragment Spread"
description message.FragmentNamedOn = codes "Fragment Name cannot be 'on'"
description message.ExpectedFragmentName = codes "expected Fragment Name"
description message.ExpectedOn = codes "expected 'on'"
description message.ExpectedConditionName = codes "expected a Name in Type Condition"
description message.ExpectedName = codes "expected a Name"
description message.ExpectedArgument = codes "expected an Argument"
description message.ExpectedVariableDefinition = codes "expected a Variable Definition"
description message.ExpectedType = codes "expected a Type"
description message.ExpectedItemType = codes "expected item type"
description message.ExpectedValue = codes "expected a valid Value"
description message.VariableInConst = codes "unexpected variable value in a Const context"
description message.InvalidExtension = codes "Invalid Type System Extension. This extension cannot be applied."
description message.ExpectedTypeName = codes "expected a name"
description message.ExpectedInterface = codes "expected an Interface name"
description message.ExpectedUnionMember = codes "expected Union Member Type"
description message.ExpectedFieldDefinition = codes "expected Field Definition"
description message.ExpectedFieldType = codes "expected a type"
description message.ExpectedArgumentDefinition = codes "expected an Argument Definition"
description message.ExpectedInputValueDefinition = codes "expected an Input Value Definition"
description message.ExpectedEnumValueDefinition = codes "expected Enum Value Definition"
description message.InvalidEnumValue = codes "invalid Enum Value"
description message.ExpectedEnumValue = codes "expected Enum Value"
description message.ExpectedRootOperation = codes "expected Root Operation Type Definition"
description message.ExpectedRootType = codes "expected a Name Type"
description message.ExpectedAt = codes "expected @ symbol"
description message.ExpectedLocations = codes "expected Directive Locations"
description message.ExpectedValidLocation = codes "expected valid Directive Location"
description message.ExpectedLocation = codes "expected Directive Location"
description message.ExpectedSchemaExtension = codes "expected directives or Root Operation Type Definition"
description message.ExpectedScalarExtension = codes "expected Directives"
description message.ExpectedObjectExtension =
    codes "expected an Implements Interface, Directives or a Fields Definition"
description message.ExpectedInterfaceExtension =
    codes "exptected an Implements Interfaces, Directives, or a Fields Definition"
description message.ExpectedUnionExtension = codes "expected Directives or Union Member Types"
description message.ExpectedEnumExtension = codes "expected Directive or Enum Values Definition"
description message.ExpectedInputExtension = codes "expected Directives or an Input Fields Definition"
description message.ExpectedVariable = codes "expected a Variable"
description message.ExpectedLCurly = codes "expected L_CURLY"
description message.ExpectedColon = codes "expected COLON"
description message.ExpectedRParen = codes "expected R_PAREN"
description message.ExpectedRBracket = codes "expected R_BRACK"
description message.ExpectedRCurly = codes "expected R_CURLY"

-- whether the message also says what was found
abbrev pub names_found : Message → Bool
names_found message.ExpectedLCurly = true
names_found message.ExpectedColon = true
names_found message.ExpectedRParen = true
names_found message.ExpectedRBracket = true
names_found message.ExpectedRCurly = true
names_found _ = false

abbrev pub found_text : Found → Text
found_text (at_text text) = text
found_text at_end = codes "EOF"
found_text at_limit = []

-- the whole message
abbrev pub message_text : Message → Found → Text
message_text this_message found =
    if names_found this_message then description this_message ++ codes ", got "
    ++ found_text found else description this_message

abbrev pub recursion_limit_message : Text
recursion_limit_message = codes "parser recursion limit reached"
