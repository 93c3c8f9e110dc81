-- Kinds of operations (GraphQL October 2021, section 2.3).
use Rattle.std.specs.Prelude.{codes}
use Rattle.validation_names.specs.Names.{Name}
use Rattle.type_system.specs.declared.kinds.OperationType.{OperationType}
use Rattle.type_system.specs.declared.kinds.OperationType.TheVariants.{Query, Mutation, Subscription}

abbrev pub word_of : OperationType → Name
word_of Query = codes "query"
word_of Mutation = codes "mutation"
word_of Subscription = codes "subscription"

-- 3.3.1, "Default Root Operation Type Names"
abbrev pub default_root_name : OperationType → Name
default_root_name Query = codes "Query"
default_root_name Mutation = codes "Mutation"
default_root_name Subscription = codes "Subscription"
