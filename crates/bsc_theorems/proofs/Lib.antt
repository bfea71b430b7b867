mod WorkedTelling
