use Rattle.std.proofs.Common.{◌≡◌}
use Rattle.apollo_document.proofs.Keywords.{word_of, spelled, misspelled}
use Rattle.apollo_document.proofs.grammar.keyword.definition_keyword.Goals as goal
use Rattle.apollo_document.specs.declared.grammar.keyword.DefinitionKeyword.TheVariants.{Query, Mutation, Subscription}
use Rattle.apollo_document.specs.declared.grammar.keyword.DefinitionKeyword.TheVariants.{Fragment, Schema, Directive}
use Rattle.apollo_document.specs.declared.grammar.keyword.DefinitionKeyword.TheVariants.{Scalar, Object, Interface}
use Rattle.apollo_document.specs.declared.grammar.keyword.DefinitionKeyword.TheVariants.{Union, Enum, InputObject}

pub returns-in-query : goal.returns-in-query
returns-in-query c = spelled c.in-Some.is c.if-not-is_kind.ensures c.data.ensures Query c.in-query.is

pub returns-in-mutation : goal.returns-in-mutation
returns-in-mutation c = spelled c.in-Some.is c.if-not-is_kind.ensures c.data.ensures Mutation c.in-mutation.is

pub returns-in-subscription : goal.returns-in-subscription
returns-in-subscription c =
    spelled c.in-Some.is c.if-not-is_kind.ensures c.data.ensures Subscription c.in-subscription.is

pub returns-in-fragment : goal.returns-in-fragment
returns-in-fragment c = spelled c.in-Some.is c.if-not-is_kind.ensures c.data.ensures Fragment c.in-fragment.is

pub returns-in-schema : goal.returns-in-schema
returns-in-schema c = spelled c.in-Some.is c.if-not-is_kind.ensures c.data.ensures Schema c.in-schema.is

pub returns-in-directive : goal.returns-in-directive
returns-in-directive c = spelled c.in-Some.is c.if-not-is_kind.ensures c.data.ensures Directive c.in-directive.is

pub returns-in-scalar : goal.returns-in-scalar
returns-in-scalar c = spelled c.in-Some.is c.if-not-is_kind.ensures c.data.ensures Scalar c.in-scalar.is

pub returns-in-type : goal.returns-in-type
returns-in-type c = spelled c.in-Some.is c.if-not-is_kind.ensures c.data.ensures Object c.in-type.is

pub returns-in-interface : goal.returns-in-interface
returns-in-interface c = spelled c.in-Some.is c.if-not-is_kind.ensures c.data.ensures Interface c.in-interface.is

pub returns-in-union : goal.returns-in-union
returns-in-union c = spelled c.in-Some.is c.if-not-is_kind.ensures c.data.ensures Union c.in-union.is

pub returns-in-enum : goal.returns-in-enum
returns-in-enum c = spelled c.in-Some.is c.if-not-is_kind.ensures c.data.ensures Enum c.in-enum.is

pub returns-in-input : goal.returns-in-input
returns-in-input c = spelled c.in-Some.is c.if-not-is_kind.ensures c.data.ensures InputObject c.in-input.is

pub returns-in_default-data : goal.returns-in_default-data
returns-in_default-data c =
    misspelled c.in-Some.is c.if-not-is_kind.ensures c.data.ensures
    (λ k. elim k as (λ k. c.data.result.now ≡ word_of k → ⊥) [
      | Query ↦ c.in_default-data.not-query
      | Mutation ↦ c.in_default-data.not-mutation
      | Subscription ↦ c.in_default-data.not-subscription
      | Fragment ↦ c.in_default-data.not-fragment
      | Schema ↦ c.in_default-data.not-schema
      | Directive ↦ c.in_default-data.not-directive
      | Scalar ↦ c.in_default-data.not-scalar
      | Object ↦ c.in_default-data.not-type
      | Interface ↦ c.in_default-data.not-interface
      | Union ↦ c.in_default-data.not-union
      | Enum ↦ c.in_default-data.not-enum
      | InputObject ↦ c.in_default-data.not-input
    ])
